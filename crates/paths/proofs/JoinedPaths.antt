-- A joined path has names only, so it is a path.
use Rattle.std.proofs.Common.{◌≡◌, ◌<◌, Bool, true, false, not, cond, List, [], ◌∷◌, reverse, length, Some, None, refl, ap, ◌∙◌, subst, arith}
use Rattle.std.specs.List.{fold, list_all}
use Rattle.std.proofs.lemmas.Bool.{and_from, and_parts}
use Rattle.std.proofs.lemmas.List.{length-reverse, reverse-append}
use Rattle.std.proofs.lemmas.List.Folds.{list_all-append}
use Rattle.paths.specs.Segments.{Segment, is_dot, is_dots, is_empty, is_name, segments}
use Rattle.paths.specs.Join.{Held, folder, is_relative, others, some_names, take_in, without_last}
use Rattle.paths.specs.JoinedPath.{JoinedIsPath}
use Rattle.paths.proofs.Together.{AllWhole, Whole, reverse_whole, segments-text_of, segments_whole}

-- names, none of them with a slash in it
pub record AllNames (names : List Segment) : Type 0 where
  pub names_only : list_all is_name names ≡ true
  pub whole : AllWhole names

abbrev Named : Held → Type 0
Named None = Unit {0}
Named (Some names) = AllNames names

reverse_all : (names : List Segment) → list_all is_name names ≡ true → list_all is_name (reverse names) ≡ true
reverse_all [] h = refl
reverse_all (n ∷ ns) h =
    let p = and_parts _ _ h in
    ap (list_all is_name) (reverse-append (n ∷ []) ns) ∙ list_all-append is_name (reverse ns) (n ∷ []) ∙ and_from _ _ (reverse_all ns p.1) (and_from _ _ p.0 refl)

less : (names : List Segment) → AllNames names → AllNames (others names)
less [] h = h
less (n ∷ ns) h = record { names_only = (and_parts _ _ h.names_only).1; whole = h.whole.1 }

off : (names : List Segment) → AllNames names → Named (without_last names)
off [] h = tt
off (n ∷ ns) h = record { names_only = (and_parts _ _ h.names_only).1; whole = h.whole.1 }

taken_by : (e d u : Bool) (names : List Segment) (s : Segment) → is_empty s ≡ e → is_dot s ≡ d → is_dots s ≡ u → Whole s → AllNames names
    → Named (cond e None (cond d (Some names) (cond u (without_last names) (Some (s ∷ names)))))
taken_by true d u names s p q r w h = tt
taken_by false true u names s p q r w h = h
taken_by false false true names s p q r w h = off names h
taken_by false false false names s p q r w h =
    record { names_only = and_from _ _ (and_from _ _ (and_from _ _ (ap not p) (ap not q)) (ap not r)) h.names_only; whole = (w, h.whole) }

one_more : (held : Held) (s : Segment) → Whole s → Named held → Named (take_in held s)
one_more None s w h = tt
one_more (Some names) s w h = taken_by (is_empty s) (is_dot s) (is_dots s) names s refl refl refl w h

all_named : (ss : List Segment) (held : Held) → AllWhole ss → Named held → Named (fold take_in held ss)
all_named [] held w h = h
all_named (s ∷ ss) held w h = all_named ss (take_in held s) w.1 (one_more held s w.0 h)

some_named : (held : Held) (names : List Segment) → Named held → some_names held ≡ Some names → AllNames names × (0 < length names)
some_named None names h e = absurd (cc)
some_named (Some []) names h e = absurd (cc)
some_named (Some (n ∷ ns)) names h e =
    let w : n ∷ ns ≡ names = cc in
    subst (λ l. AllNames l × (0 < length l)) w (h, omega arith)

relative_some : (b : Bool) (o : Held) (names : List Segment) → cond b o None ≡ Some names → o ≡ Some names
relative_some true o names e = e
relative_some false o names e = absurd (cc)

pub joined_is_path : JoinedIsPath
joined_is_path path specifier names lawful e =
    let base : AllNames (reverse (segments path)) = record { names_only = reverse_all (segments path) lawful; whole = reverse_whole (segments path) (segments_whole path) } in
    let held = fold take_in (Some (folder path)) (segments specifier) in
    let named = all_named (segments specifier) (Some (folder path)) (segments_whole specifier) (less (reverse (segments path)) base) in
    let k = some_named held names named (relative_some (is_relative specifier) (some_names held) names e) in
    ap (list_all is_name) (segments-text_of (reverse names) (reverse_whole names k.0.whole) (omega (arith, length-reverse names, k.1)))
    ∙ reverse_all names k.0.names_only
