-- A name as it is written byte by byte, and names one by one.
use Rattle.std.proofs.Common.{◌≡◌, ℕ, ◌+◌, ◌<◌, ◌≤◌, ◌^◌, ◌-◌, true, false, List, [], ◌∷◌, length, get_or, drop, Some, Ok, Result, option_map, ap, ◌∙◌, subst, arith, leb-true}
use Rattle.std.specs.Prelude.{◌&&◌, ◌==◌, nat_le, not}
use Rattle.std.specs.Fmt.{DisplaysOnOk, WritesOnOk, digits, digits_output, format_spec, padded_integral, radix_prefix, shown_prefix, styled_digits_output}
use Rattle.std.specs.declared.fmt.Formatter.{Formatter}
use Rattle.std.specs.declared.fmt.Error.{Error}
use Rattle.std.proofs.lemmas.Fmt.{hex_byte}
use Rattle.std.proofs.lemmas.List.{at_drop_more}
use Rattle.lines.proofs.Underway.{Going, one_more}
use Rattle.lines.specs.Texts.{hex_bytes}
use Rattle.std.proofs.lemmas.Bool.{and_parts}
use Rattle.std.proofs.lemmas.Str.{encode_ascii}
use Rattle.std.specs.Char.{encode_utf8}
use Rattle.people.specs.Quoted.{inside_quotes, is_plain, name_line, name_lines, quoted_byte}
use Rattle.text.specs.declared.place.Place.{Place}

byte_shown : (d : _) (s : _) (n : ℕ) → n < 256 → digits_output d ≡ Some (digits 16 false n) → s ≡ format_spec 32 0 4 2 (2 ^ 64 - 1) → styled_digits_output d s ≡ Some (hex_bytes (n ∷ []))
byte_shown d s n h e k = (λ i. option_map (padded_integral (k i) false (shown_prefix (k i) (radix_prefix d.base))) (e i)) ∙ ap Some (hex_byte false n h)

pub digits_written : {W : Type 0} (took : W → List ℕ → W → Type 0) (d : _) (s : _) (n : ℕ) (g : Formatter W) (r : Result (Unit {0}) Error) (h : Formatter W) → n < 256 → digits_output d ≡ Some (digits 16 false n) → s ≡ format_spec 32 0 4 2 (2 ^ 64 - 1)
    → DisplaysOnOk took g r (styled_digits_output d s) h → WritesOnOk took g r (hex_bytes (n ∷ [])) h
digits_written took d s n g r h small e k shown = subst (λ o. DisplaysOnOk took g r o h) (byte_shown d s n small e k) shown

is_ascii_of_plain : (n : ℕ) → is_plain n ≡ true → n < 128
is_ascii_of_plain n e =
    let (abc, d) = and_parts (nat_le 32 n && nat_le n 126 && not (n == 34)) (not (n == 92)) e in
    let (ab, c) = and_parts (nat_le 32 n && nat_le n 126) (not (n == 34)) abc in
    let (a, b) = and_parts (nat_le 32 n) (nat_le n 126) ab in
    let top : n ≤ 126 = leb-true n 126 b in
    omega (arith, top)

pub plain_written : {W : Type 0} (took : W → List ℕ → W → Type 0) (n : ℕ) (g : Formatter W) (r : Result (Unit {0}) Error) (h : Formatter W) → is_plain n ≡ true → WritesOnOk took g r (encode_utf8 n) h → WritesOnOk took g r (n ∷ []) h
plain_written took n g r h e shown = subst (λ o. WritesOnOk took g r o h) (encode_ascii n (is_ascii_of_plain n e)) shown

module _ {W : Type 0} (took : W → List ℕ → W → Type 0) (f : Formatter W) (whole : List ℕ) where
  -- one byte more was written
  pub byte_written : (bytes left : List ℕ) (n : ℕ) (g h : Formatter W) → bytes ≡ n ∷ left → Going took f whole g (inside_quotes bytes) → WritesOnOk took g (Ok tt) (quoted_byte n) h → Going took f whole h (inside_quotes left)
  byte_written bytes left n g h is going shown =
      one_more took f whole g (quoted_byte n) (inside_quotes left) h (subst (Going took f whole g) (ap inside_quotes is) going) shown

  -- one name more was written
  pub name_written : (text : List ℕ) (rows : List Place) (i : ℕ) (d : Place) → i < length rows → (g h : Formatter W) → Going took f whole g (name_lines text (drop i rows)) → WritesOnOk took g (Ok tt) (name_line text (get_or rows i d)) h → Going took f whole h (name_lines text (drop (i + 1) rows))
  name_written text rows i d l g h going shown =
      one_more took f whole g (name_line text (get_or rows i d)) (name_lines text (drop (i + 1) rows)) h (subst (Going took f whole g) (at_drop_more (name_lines text) rows i d l) going) shown
