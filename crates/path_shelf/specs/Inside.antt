-- A path shelf leads to its own modules only.
use Rattle.std.specs.Prelude.{◌≡◌, ℕ, ◌<◌, ◌≤◌, ◌+◌, suc, zero, List, ◌++◌, reverse, codes, Bool, true, false, cond, Option, Some, None}
use Rattle.std.specs.List.{find, range_with_len}
use Rattle.std.specs.Option.{option_or}
use Rattle.std.specs.Str.{bytes_eq}
use Rattle.std.proofs.Common.{arith}
use Rattle.paths.specs.Join.{Held, join}
use Rattle.paths.specs.Segments.{text_of}
use Rattle.path_shelf.specs.Paths.{module_count, path_of}
use Rattle.path_shelf.specs.Means.{first_with, leads, names_lead}

module _ (count to : ℕ) where
  -- it leads to a module
  abbrev LeadsInside : Option ℕ → Type 0
  LeadsInside o = o ≡ Some to → to < count

  here : (b : Bool) (i : ℕ) (later : Option ℕ) → i < count → LeadsInside later → LeadsInside (cond b (Some i) later)
  here true i later h rest e =
      let w : i ≡ to = cc in
      omega arith
  here false i later h rest e = rest e

  first_inside : (test : ℕ → Bool) (n i : ℕ) → i + n ≤ count → LeadsInside (find test (range_with_len i n))
  first_inside test zero i h e = absurd (cc)
  first_inside test (suc n) i h e = here (test i) i (find test (range_with_len (i + 1) n)) (omega arith) (first_inside test n (i + 1) (omega arith)) e

  either : (a b : Option ℕ) → LeadsInside a → LeadsInside b → LeadsInside (option_or a b)
  either None b p q e = q e
  either (Some x) b p q e = p e

module _ (bytes : List ℕ) (to : ℕ) where
  abbrev Inside : Option ℕ → Type 0
  Inside o = LeadsInside (module_count bytes) to o

  one : (path : List ℕ) → Inside (first_with bytes path)
  one path = first_inside (module_count bytes) to (λ m. bytes_eq (path_of bytes m) path) (module_count bytes) 0 (omega arith)

  names_inside : (held : Held) → Inside (names_lead bytes held)
  names_inside None e = absurd (cc)
  names_inside (Some names) e =
      let path = text_of (reverse names) in
      either (module_count bytes) to (first_with bytes path) _ (one path)
      (either (module_count bytes) to (first_with bytes (path ++ codes ".js")) (first_with bytes (path ++ codes "/index.js")) (one (path ++ codes ".js")) (one (path ++ codes "/index.js"))) e

pub leads_inside : (bytes : List ℕ) (specifier : List ℕ) (from to : ℕ) → leads bytes from specifier ≡ Some to → to < module_count bytes
leads_inside bytes specifier from to e = names_inside bytes to (join (path_of bytes from) specifier) e
