-- A lawful shelf leads to its own modules only.
use Rattle.std.specs.Prelude.{◌≡◌, ℕ, ◌<◌, ◌≤◌, ◌+◌, suc, zero, List, map, Bool, true, false, cond, Option, Some}
use Rattle.std.specs.List.{find, range_with_len}
use Rattle.std.specs.Option.{option_map}
use Rattle.std.proofs.Common.{arith}
use Rattle.link_shelf.specs.declared.link.Link.{Link}
use Rattle.link_shelf.specs.Lawful.{Lawful}
use Rattle.link_shelf.specs.Links.{link, link_count, links, module_count}
use Rattle.link_shelf.specs.Means.{is_of, leads}

module _ (bytes : List ℕ) (lawful : Lawful bytes) (test : Link → Bool) (to : ℕ) where
  -- the first of some links of the shelf that passes a test leads to a module
  abbrev LeadsInside : Option Link → Type 0
  LeadsInside first = option_map (λ l. l.target) first ≡ Some to → to < module_count bytes

  here : (b : Bool) (i : ℕ) (later : Option Link) → i < link_count bytes → LeadsInside later → LeadsInside (cond b (Some (link bytes i)) later)
  here true i later h rest e =
      let w : (link bytes i).target ≡ to = cc in
      omega (arith, (lawful.links i h).to_module)
  here false i later h rest e = rest e

  first_inside : (n i : ℕ) → i + n ≤ link_count bytes → LeadsInside (find test (map (link bytes) (range_with_len i n)))
  first_inside zero i h e = absurd (cc)
  first_inside (suc n) i h e = here (test (link bytes i)) i (find test (map (link bytes) (range_with_len (i + 1) n))) (omega arith) (first_inside n (i + 1) (omega arith)) e

pub leads_inside : (bytes : List ℕ) → Lawful bytes → (specifier : List ℕ) (from to : ℕ) → leads bytes from specifier ≡ Some to → to < module_count bytes
unfolding links
leads_inside bytes lawful specifier from to e = first_inside bytes lawful (is_of bytes from specifier) to (link_count bytes) 0 (omega arith) e
