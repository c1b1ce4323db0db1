-- What the tables hold as the walk goes on from one row to the next.
use Rattle.std.proofs.Common.{◌≡◌, ℕ, ◌<◌, ◌≤◌, List, ◌++◌, length, Ok, sym, ap, ◌∙◌, subst}
use Rattle.tree.specs.declared.row.Row.{Row}
use Rattle.tree.specs.declared.node.Node.{Node as TreeNode}
use Rattle.tree.specs.declared.tree.Tree.{Tree}
use Rattle.tree.specs.Children.{row_of}
use Rattle.tree.specs.Subject.{tree_rows, tree_text}
use Rattle.tree.specs.Forest.{Nested, children, forest, row_at}
use Rattle.tree.proofs.Split.{nested_of}
use Rattle.findings.specs.Tables.{Found, room_of}
use Rattle.findings.specs.declared.refusal.FindingsFault.{FindingsFault}
use Rattle.findings.specs.declared.refusal.FindingsFault.TheVariants.{Full}
use Rattle.findings.specs.declared.tables.FindingsTables.{FindingsTables}
use Rattle.cjs_law.specs.declared.event.Event.{Event}
use Rattle.cjs_law.specs.Events.{events}
use Rattle.cjs_law.specs.Findings.{held, outcome, outcome_after, safe}
use Rattle.cjs_law.specs.Walk.{Act, acts_at, acts_from, acts_of, bound, walked}
use Rattle.cjs_law.proofs.Onward.{left_none, left_on}
use Rattle.cjs_rules.specs.Nodes.{section}
use Rattle.cjs_parse.specs.declared.visited.Visited.{Visited}
use Rattle.cjs_parse.specs.declared.walk.Walk.{Walk}
use Rattle.cjs_parse.specs.Moving.{bound_by}
use Rattle.cjs_parse.specs.Visited.{Comes}
use Rattle.cjs_parse.specs.State.{Finished, GaveUp, Kept, Moved, Sound, Stuck, after, goes, look, state}
use Rattle.cjs_parse.proofs.Entered.{Told, told}
use Rattle.cjs_parse.proofs.Moving.{Halted, Took}
use Rattle.cjs_parse.proofs.Named.{bound_held}
use Rattle.cjs_parse.proofs.Steps.{kept_on}

-- the tables hold what was done so far, and the outcome of the whole walk is that of what is left of it
pub record Going (T : List ℕ) (rs : List Row) (v w : FindingsTables) (j : ℕ) : Type 0 where
  pub done : List Act
  pub sound : Sound T w
  pub kept : Kept v w
  pub holds : state w ≡ held T done
  pub onward : outcome T (room_of v) (acts_of T rs) ≡ outcome_after T (room_of v) done (acts_from T done (walked (forest rs j (length rs))))

module _ (T : List ℕ) (rs : List Row) (v : FindingsTables) where
  module _ (law : Nested rs) (w u : FindingsTables) (j : ℕ) (h : j < length rs) (g : Going T rs v w j) where
    abbrev asked : List Event
    asked = events T (look T (state w).bindings) (row_at rs j) (children rs j)

    abbrev due : List Event
    due = events T (bound T g.done) (row_at rs j) (children rs j)

    asked_is_due : asked ≡ due
    asked_is_due = ap (λ b. events T b (row_at rs j) (children rs j)) (ap (λ (f : Found). look T f.bindings) g.holds ∙ bound_held T g.done)

    abbrev here : List Act
    here = acts_at j due

    abbrev rest : List Act
    rest = acts_from T (g.done ++ here) (walked (forest rs (after rs j) (length rs)))

    whole : outcome T (room_of v) (acts_of T rs) ≡ outcome_after T (room_of v) g.done (here ++ rest)
    whole = g.onward ∙ ap (λ l. outcome_after T (room_of v) g.done (acts_from T g.done l)) (left_on rs law j h)

    from_held : goes T (room_of w) asked (state w) ≡ goes T (room_of v) due (held T g.done)
    from_held = λ i. goes T (g.kept.room i) (asked_is_due i) (g.holds i)

    pub going_on : Moved T w asked u → Going T rs v u (after rs j)
    going_on m =
        let t = subst (Told T (room_of v) g.done j due rest) (sym from_held ∙ m.to) (told T (room_of v) j g.done due rest) in
        record {
          done = g.done ++ here;
          sound = m.sound;
          kept = kept_on v w u g.kept m.kept;
          holds = t.0;
          onward = whole ∙ t.1;
        }

    pub gave_up : (m : ℕ) (e : FindingsFault) → e ≡ Full m j → Stuck T w asked u → GaveUp m T rs v e u
    gave_up m e f s =
        record {
          row = j;
          fault = f;
          outcome = whole ∙ subst (Told T (room_of v) g.done j due rest) (sym from_held ∙ s.full) (told T (room_of v) j g.done due rest);
          kept = kept_on v w u g.kept s.kept;
        }

  pub finished : Nested rs → (w : FindingsTables) (j : ℕ) → length rs ≤ j → Going T rs v w j → Finished T rs v w
  finished law w j h g =
      record {
        outcome =
            g.onward
            ∙ ap (λ l. outcome_after T (room_of v) g.done (acts_from T g.done l)) (left_none rs law j h)
            ∙ ap (λ f. Ok (safe T f)) (sym g.holds);
        kept = g.kept;
        sound = g.sound;
      }

-- the same by the nodes that the walk comes to
module _ (t : Tree) (v : FindingsTables) (w u : Walk) (s then : Visited) (n : TreeNode) (e : s.tree.now ≡ t) (x : w.text.now ≡ tree_text t) (g : Going (tree_text t) (tree_rows t) v w.tables.now s.next) (c : Comes s n then) where
  abbrev asked_by : List Event
  asked_by = events (section n) (bound_by w) (row_of n) (children (tree_rows n.tree.now) n.row)

  abbrev asked_at : List Event
  asked_at = events (tree_text t) (look (tree_text t) (state w.tables.now).bindings) (row_at (tree_rows t) s.next) (children (tree_rows t) s.next)

  asked_same : asked_by ≡ asked_at
  asked_same =
      let in_tree : n.tree.now ≡ t = c.tree ∙ e in
      λ i. events (tree_text (in_tree i)) (look (x i) (state w.tables.now).bindings) (row_at (tree_rows (in_tree i)) (c.row i)) (children (tree_rows (in_tree i)) (c.row i))

  inside : s.next < length (tree_rows t)
  inside = subst (λ (k : Tree). s.next < length (tree_rows k)) e c.inside

  pub walked_on : Took w asked_by u → Going (tree_text t) (tree_rows t) v u.tables.now then.next
  walked_on m =
      let moved : Moved (tree_text t) w.tables.now asked_at u.tables.now = subst (λ S. Moved S w.tables.now asked_at u.tables.now) x (subst (λ es. Moved w.text.now w.tables.now es u.tables.now) asked_same m.2) in
      let next : then.next ≡ after (tree_rows t) s.next = c.next ∙ ap (λ (k : Tree). after (tree_rows k) s.next) e in
      subst (Going (tree_text t) (tree_rows t) v u.tables.now) (sym next) (going_on (tree_text t) (tree_rows t) v (nested_of t) w.tables.now u.tables.now s.next inside g moved)

  pub gave_up_at : (m : ℕ) (e : FindingsFault) → e ≡ Full m n.row → Halted w asked_by u → GaveUp m (tree_text t) (tree_rows t) v e u.tables.now
  gave_up_at m e f k =
      let stuck : Stuck (tree_text t) w.tables.now asked_at u.tables.now = subst (λ S. Stuck S w.tables.now asked_at u.tables.now) x (subst (λ es. Stuck w.text.now w.tables.now es u.tables.now) asked_same k.2) in
      gave_up (tree_text t) (tree_rows t) v (nested_of t) w.tables.now u.tables.now s.next inside g m e (f ∙ ap (Full m) c.row) stuck

pub walked_all : (t : Tree) (v : FindingsTables) (w : FindingsTables) (s : Visited) → s.tree.now ≡ t → Going (tree_text t) (tree_rows t) v w s.next → length (tree_rows s.tree.now) ≤ s.next → Finished (tree_text t) (tree_rows t) v w
walked_all t v w s e g h = finished (tree_text t) (tree_rows t) v (nested_of t) w s.next (subst (λ (k : Tree). length (tree_rows k) ≤ s.next) e h) g
