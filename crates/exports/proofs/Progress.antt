-- The walk over the items: what an item adds to the two lists, and what the walk comes to from here on.
use Rattle.std.proofs.Common.{◌≡◌, ℕ, true, false, cond, ◌&&◌, leb, List, [], ◌++◌, length, is_ok, Ok, Err, Result, sym, refl, ap, ◌∙◌, append_assoc, append-nil}
use Rattle.std.proofs.lemmas.Bool.{and_parts, cond-false, cond-true}
use Rattle.table.specs.Kind.{capacity, held}
use Rattle.table.specs.declared.table.Full.{Full}
use Rattle.text.specs.declared.place.Place.{Place}
use Rattle.tree.specs.Forest.{Forest, node}
use Rattle.cjs_rules.specs.Nodes.{Node}
use Rattle.exports.specs.declared.append.PlaceList.{PlaceList}
use Rattle.exports.specs.Append.{ItemListed, Lists, NotListed, outcome_after, room_for}
use Rattle.exports.specs.Beyond.{item_names}
use Rattle.exports.specs.ExportedNames.{star_of}
use Rattle.exports.specs.Listing.{has_enough_room, listed, listing}
use Rattle.exports.proofs.Appending.{capacity_after, held_whole, more_listed, nothing_listed}

-- an item that appends to the second list alone
pub stars_listed : (s s' : PlaceList) (r : Result (Unit {0}) Full) (stars : List Place) (t' : PlaceList) → Lists stars s' r t' → ItemListed [] stars s s' r s t'
stars_listed s s' r stars t' a =
    let none = nothing_listed s in
    record { answer = rw (← none.appended.answer) a.appended.answer; exports = none.appended.table; reexports = a.appended.table; same = (refl, a.same) }

-- the lists t and t' after all items but the `rest`, of lists that were s and s'
pub record Progress (s s' t t' : PlaceList) (all rest : Forest) : Type 0 where
  pub names : List Place
  pub stars : List Place
  pub exports : Lists names s (Ok tt) t
  pub reexports : Lists stars s' (Ok tt) t'
  pub outcome : outcome_after s.table.now s'.table.now all ≡ listed (room_for s.table.now s'.table.now) (held s.table.now ++ names) (held s'.table.now ++ stars) rest

pub at_first : (s s' : PlaceList) (all rest : Forest) → rest ≡ all → Progress s s' s s' all rest
at_first s s' all rest e =
    record {
      names = [];
      stars = [];
      exports = nothing_listed s;
      reexports = nothing_listed s';
      outcome = λ i. listed (room_for s.table.now s'.table.now) (sym (append-nil (held s.table.now)) i) (sym (append-nil (held s'.table.now)) i) (sym e i);
    }

module _ (s s' t t' : PlaceList) (all left : Forest) (p : Progress s s' t t' all left) where
  exports_held : held t.table.now ≡ held s.table.now ++ p.names
  exports_held = held_whole p.names _ _ p.exports.appended

  reexports_held : held t'.table.now ≡ held s'.table.now ++ p.stars
  reexports_held = held_whole p.stars _ _ p.reexports.appended

  exports_room : capacity t.table.now ≡ capacity s.table.now
  exports_room = capacity_after p.names _ _ p.exports.appended.table

  reexports_room : capacity t'.table.now ≡ capacity s'.table.now
  reexports_room = capacity_after p.stars _ _ p.reexports.appended.table

  module _ (c : ℕ) (n : Node) (after : Forest) (is : left ≡ node c n.row n.kids after) (r : Result (Unit {0}) Full) (u u' : PlaceList) (l : ItemListed (item_names n) (star_of n) t t' r u u') where
    abbrev names' : List Place
    names' = (held s.table.now ++ p.names) ++ item_names n

    abbrev stars' : List Place
    stars' = (held s'.table.now ++ p.stars) ++ star_of n

    answer_is : is_ok r ≡ has_enough_room (room_for s.table.now s'.table.now) (listing names' stars')
    answer_is = l.answer ∙ (λ i. leb (length (exports_held i ++ item_names n)) (exports_room i) && leb (length (reexports_held i ++ star_of n)) (reexports_room i))

    from_here : outcome_after s.table.now s'.table.now all ≡ cond (has_enough_room (room_for s.table.now s'.table.now) (listing names' stars')) (listed (room_for s.table.now s'.table.now) names' stars' after) (Err c)
    from_here = p.outcome ∙ ap (listed (room_for s.table.now s'.table.now) (held s.table.now ++ p.names) (held s'.table.now ++ p.stars)) is

    -- on to the next item, after one that was listed
    pub at_next : is_ok r ≡ true → Progress s s' u u' all after
    at_next ok =
        let fits = and_parts _ _ (sym l.answer ∙ ok) in
        record {
          names = p.names ++ item_names n;
          stars = p.stars ++ star_of n;
          exports = more_listed p.names (item_names n) s t u (Ok tt) p.exports (record { appended = record { answer = sym fits.0; table = l.exports }; same = l.same.0 });
          reexports = more_listed p.stars (star_of n) s' t' u' (Ok tt) p.reexports (record { appended = record { answer = sym fits.1; table = l.reexports }; same = l.same.1 });
          outcome =
              from_here
              ∙ cond-true _ _ _ (sym answer_is ∙ ok)
              ∙ (λ i. listed (room_for s.table.now s'.table.now) (append_assoc (held s.table.now) p.names (item_names n) i) (append_assoc (held s'.table.now) p.stars (star_of n) i) after);
        }

    -- an item for which there is no room
    pub no_room : is_ok r ≡ false → NotListed all s.table.now s'.table.now c u.table.now u'.table.now
    no_room err = record {
      outcome = from_here ∙ cond-false _ _ _ (sym answer_is ∙ err);
      room = (capacity_after (item_names n) _ _ l.exports ∙ exports_room, capacity_after (star_of n) _ _ l.reexports ∙ reexports_room);
      lenders = (l.exports.lender ∙ p.exports.appended.table.lender, l.reexports.lender ∙ p.reexports.appended.table.lender);
    }
