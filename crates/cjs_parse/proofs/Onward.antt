-- A loop over siblings that enters an event for each.
use Rattle.std.proofs.Common.{◌≡◌, ℕ, Bool, true, false, cond, List, [], ◌∷◌, ◌++◌, is_err, Some, None, Ok, Option, Result, sym, refl, ap, ◌∙◌, subst}
use Rattle.table.specs.declared.table.Full.{Full}
use Rattle.tree.specs.declared.node.Children.{Children}
use Rattle.tree.specs.declared.node.Node.{Node as TreeNode}
use Rattle.tree.specs.declared.tree.Tree.{Tree}
use Rattle.tree.specs.Children.{Comes, left}
use Rattle.tree.specs.Forest.{Forest, children, nil}
use Rattle.tree.specs.Subject.{tree_rows, tree_text}
use Rattle.findings.specs.Tables.{Found, Room, room_of}
use Rattle.findings.specs.declared.tables.FindingsTables.{FindingsTables}
use Rattle.cjs_law.specs.declared.event.Event.{Event}
use Rattle.cjs_law.specs.Events.{each, once}
use Rattle.cjs_law.specs.Findings.{fits}
use Rattle.cjs_rules.specs.Nodes.{Node, here, section}
use Rattle.cjs_parse.specs.Moving.{MovesOn}
use Rattle.cjs_parse.specs.State.{Kept, Moved, Sound, Stuck, apply, goes, state}
use Rattle.cjs_parse.specs.declared.walk.Walk.{Walk}
use Rattle.cjs_parse.proofs.Moving.{Halted, Took}
use Rattle.cjs_parse.proofs.Steps.{kept_on, stuck_by}

module _ (T : List ℕ) (k : Room) where
  abbrev then : Option Found → List Event → Option Found
  then None fs = None
  then (Some f) fs = goes T k fs f

  append_by : (e : Event) (es fs : List Event) (f : Found) (t : Bool) → ((g : Found) → goes T k (es ++ fs) g ≡ then (goes T k es g) fs) → cond t (goes T k (es ++ fs) (apply T e f)) None ≡ then (cond t (goes T k es (apply T e f)) None) fs
  append_by e es fs f true h = h (apply T e f)
  append_by e es fs f false h = refl

  goes_append : (es fs : List Event) (f : Found) → goes T k (es ++ fs) f ≡ then (goes T k es f) fs
  unfolding goes
  goes_append [] fs f = refl
  goes_append (e ∷ es) fs f = append_by e es fs f (fits k (apply T e f)) (λ g. goes_append es fs g)

  pub goes_none : (f : Found) → goes T k [] f ≡ Some f
  unfolding goes
  goes_none f = refl

moved_append : (T : List ℕ) (v w : FindingsTables) (es fs : List Event) → Moved T v es w → goes T (room_of v) (es ++ fs) (state v) ≡ goes T (room_of v) fs (state w)
moved_append T v w es fs m = goes_append T (room_of v) es fs (state v) ∙ ap (λ o. then T (room_of v) o fs) m.to

stuck_append : (T : List ℕ) (v w : FindingsTables) (es fs : List Event) → Stuck T v es w → goes T (room_of v) (es ++ fs) (state v) ≡ None
stuck_append T v w es fs s = goes_append T (room_of v) es fs (state v) ∙ ap (λ o. then T (room_of v) o fs) s.full

-- what the tables were to take in for some nodes is what they are to take in for those that are left
pub record Onward (one : Node → Option Event) (v w : Walk) (all rest : Forest) : Type 0 where
  pub text : w.text.now ≡ v.text.now
  pub name : w.tables.ghost_name ≡ v.tables.ghost_name
  pub kept : Kept v.tables.now w.tables.now
  pub onward : goes v.text.now (room_of v.tables.now) (each one all) (state v.tables.now) ≡ goes v.text.now (room_of v.tables.now) (each one rest) (state w.tables.now)

module _ (one : Node → Option Event) (v w u : Walk) (all : Forest) (s t : Children) (n : TreeNode) (e : Option Event) (o : Onward one v w all (left s)) (c : Comes s n t) (is : e ≡ one (here n)) where
  abbrev T : List ℕ
  T = v.text.now

  abbrev more : List Event
  more = each one (left t)

  next_is : goes T (room_of v.tables.now) (each one all) (state v.tables.now) ≡ goes T (room_of v.tables.now) (once e ++ more) (state w.tables.now)
  next_is =
      o.onward
      ∙ ap (λ f. goes T (room_of v.tables.now) (each one f) (state w.tables.now)) c.first
      ∙ ap (λ x. goes T (room_of v.tables.now) (once x ++ more) (state w.tables.now)) (sym is)

  onward_step : Took w (once e) u → Onward one v u all (left t)
  onward_step m =
      let moved : Moved T w.tables.now (once e) u.tables.now = subst (λ S. Moved S w.tables.now (once e) u.tables.now) o.text m.2 in
      record {
        text = m.0 ∙ o.text;
        name = m.1 ∙ o.name;
        kept = kept_on v.tables.now w.tables.now u.tables.now o.kept moved.kept;
        onward = next_is ∙ subst (λ k. goes T k (once e ++ more) (state w.tables.now) ≡ goes T k more (state u.tables.now)) o.kept.room (moved_append T w.tables.now u.tables.now (once e) more moved);
      }

  onward_stuck : Halted w (once e) u → Halted v (each one all) u
  onward_stuck m =
      let stuck : Stuck T w.tables.now (once e) u.tables.now = subst (λ S. Stuck S w.tables.now (once e) u.tables.now) o.text m.2 in (
        m.0 ∙ o.text,
        m.1 ∙ o.name,
        record {
          full = next_is ∙ subst (λ k. goes T k (once e ++ more) (state w.tables.now) ≡ None) o.kept.room (stuck_append T w.tables.now u.tables.now (once e) more stuck);
          kept = kept_on v.tables.now w.tables.now u.tables.now o.kept stuck.kept;
        },
      )

onward_done : (one : Node → Option Event) (v w : Walk) (all rest : Forest) → Onward one v w all rest → rest ≡ nil → Took v (each one all) w
onward_done one v w all rest o e = (
  o.text,
  o.name,
  record {
    to = o.onward ∙ ap (λ f. goes v.text.now (room_of v.tables.now) (each one f) (state w.tables.now)) e ∙ goes_none v.text.now (room_of v.tables.now) (state w.tables.now);
    kept = o.kept;
    sound = subst (λ S. Sound S w.tables.now) o.text w.sound;
  },
)

-- the same for other words of the question and the nodes
asked_as : (one two : Node → Option Event) (f g : Forest) (v w : Walk) (r : Result (Unit {0}) Full) → one ≡ two → f ≡ g → MovesOn v (each one f) r w → MovesOn v (each two g) r w
asked_as one two f g v w r e h m = subst (λ h. MovesOn v (each two h) r w) h (subst (λ k. MovesOn v (each k f) r w) e m)

-- what such a loop keeps, whose question is asked of the text section and of each child
abbrev pub Keeps : (List ℕ → Node → Option Event) → Walk → Walk → Children → Children → Type 0
Keeps one v w first rest = (rest.tree.now ≡ first.tree.now) × Onward (one (tree_text first.tree.now)) v w (left first) (left rest)

-- a question that is asked of the text section and of each child of a node o
module _ (one : List ℕ → Node → Option Event) (v : Walk) (first : Children) where
  abbrev asks : Node → Option Event
  asks = one (tree_text first.tree.now)

  asked : (s t : Children) (n : TreeNode) (e : Option Event) → s.tree.now ≡ first.tree.now → Comes s n t → e ≡ one (section n) (here n) → e ≡ asks (here n)
  asked s t n e q c is = is ∙ ap (λ (k : Tree). one (tree_text k) (here n)) (c.tree ∙ q)

  pub each_step :
      (w u : Walk) (s t : Children) (n : TreeNode) (e : Option Event) → Keeps one v w first s → Comes s n t → e ≡ one (section n) (here n) →
      Took w (once e) u → Keeps one v u first t
  each_step w u s t n e k c is m = (c.same ∙ k.0, onward_step asks v w u (left first) s t n e k.1 c (asked s t n e k.0 c is) m)

  module _ (o : TreeNode) (items : Children) (given : first ≡ items) (tree : items.tree.now ≡ o.tree.now) (kids : left items ≡ children (tree_rows o.tree.now) o.row) where
    of_all : (u : Walk) (r : Result (Unit {0}) Full) → MovesOn v (each asks (left first)) r u → MovesOn v (each (one (section o)) (children (tree_rows o.tree.now) o.row)) r u
    of_all u r m =
        asked_as asks (one (section o)) (left first) (children (tree_rows o.tree.now) o.row) v u r (ap (λ (k : Tree). one (tree_text k)) (ap (λ (it : Children). it.tree.now) given ∙ tree)) (ap left given ∙ kids) m

    pub each_stuck :
        (w u : Walk) (s t : Children) (n : TreeNode) (e : Option Event) (r : Result (Unit {0}) Full) → Keeps one v w first s → Comes s n t → e ≡ one (section n) (here n) → is_err r ≡ true →
        Halted w (once e) u → MovesOn v (each (one (section o)) (children (tree_rows o.tree.now) o.row)) r u
    each_stuck w u s t n e r k c is err m =
        let stuck = onward_stuck asks v w u (left first) s t n e k.1 c (asked s t n e k.0 c is) m in
        of_all u r (stuck.0, stuck.1, stuck_by v.text.now v.tables.now (each asks (left first)) u.tables.now r err stuck.2)

    pub each_done : (w : Walk) (s : Children) → Keeps one v w first s → left s ≡ nil → MovesOn v (each (one (section o)) (children (tree_rows o.tree.now) o.row)) (Ok tt) w
    each_done w s k e = of_all w (Ok tt) (onward_done asks v w (left first) (left s) k.1 e)
