-- A loop that appends: what it comes to as a whole is what it comes to from here on.
use Rattle.std.proofs.Common.{◌≡◌, true, List, [], ◌++◌, is_err, Ok, Err, Result, ap, ◌∙◌, subst}
use Rattle.table.specs.declared.table.Full.{Full}
use Rattle.text.specs.declared.place.Place.{Place}
use Rattle.tree.specs.Children.{Comes, left, row_of}
use Rattle.tree.specs.declared.node.Children.{Children}
use Rattle.tree.specs.declared.node.Node.{Node}
use Rattle.tree.specs.Forest.{Forest, children, node}
use Rattle.tree.specs.Subject.{tree_rows}
use Rattle.exports.specs.declared.append.PlaceList.{PlaceList}
use Rattle.exports.specs.Append.{Lists}
use Rattle.exports.proofs.Appending.{cut_off, more_listed, none_listed}

-- from the list t on, with `rest` to append, as from the list s on with `all`
pub record Onward (all rest : List Place) (s t : PlaceList) : Type 0 where
  pub on : (r : Result (Unit {0}) Full) (u : PlaceList) → Lists rest t r u → Lists all s r u

-- one turn of a loop over children: `f` is what those give that stand side by side, and `ys` what this one gives
module _ (f : Forest → List Place) (all ys : List Place) (s t u : PlaceList) (before : Children) (n : Node) (after : Children) (c : Comes before n after)
    (split : f (node n.row (row_of n) (children (tree_rows n.tree.now) n.row) (left after)) ≡ ys ++ f (left after)) (o : Onward all (f (left before)) s t) where
  here : Onward all (ys ++ f (left after)) s t
  here = subst (λ l. Onward all l s t) (ap f c.first ∙ split) o

  pub turn : Lists ys t (Ok tt) u → Onward all (f (left after)) s u
  turn a = record { on = λ r v b. here.on r v (more_listed ys (f (left after)) t u v r a b) }

  pub stop : (e : Full) (r : Result (Unit {0}) Full) → Lists ys t (Err e) u → is_err r ≡ true → Lists all s r u
  stop e r a err = here.on r u (cut_off ys (f (left after)) t u e r a err)

pub done : (all rest : List Place) (s t : PlaceList) → rest ≡ [] → Onward all rest s t → Lists all s (Ok tt) t
done all rest s t e o = o.on (Ok tt) t (none_listed rest t e)
