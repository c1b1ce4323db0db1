-- The two hexadecimal digits of a byte, as `{:02x}` writes them, and the bytes of a text that are left to write.
use Rattle.std.proofs.Common.{◌≡◌, ℕ, ◌<◌, ◌^◌, ◌-◌, false, List, [], ◌∷◌, Some, Ok, option_map, ap, ◌∙◌, subst}
use Rattle.std.specs.Fmt.{DisplaysOnOk, digits, digits_output, format_spec, padded_integral, radix_prefix, shown_prefix, styled_digits_output}
use Rattle.std.specs.declared.fmt.Formatter.{Formatter}
use Rattle.std.proofs.lemmas.Fmt.{hex_byte}
use Rattle.lines.specs.Texts.{hex_bytes}
use Rattle.lines.proofs.Underway.{Going, one_more}

byte_shown : (d : _) (s : _) (n : ℕ) → n < 256 → digits_output d ≡ Some (digits 16 false n) → s ≡ format_spec 32 0 4 2 (2 ^ 64 - 1) → styled_digits_output d s ≡ Some (hex_bytes (n ∷ []))
byte_shown d s n h e k = (λ i. option_map (padded_integral (k i) false (shown_prefix (k i) (radix_prefix d.base))) (e i)) ∙ ap Some (hex_byte false n h)

module _ {W : Type 0} (took : W → List ℕ → W → Type 0) (f : Formatter W) (whole : List ℕ) where
  -- one byte more was written
  pub byte_written : (d : _) (s : _) (n : ℕ) (bytes left : List ℕ) (g h : Formatter W) → n < 256 → digits_output d ≡ Some (digits 16 false n) → s ≡ format_spec 32 0 4 2 (2 ^ 64 - 1) → bytes ≡ n ∷ left → Going took f whole g (hex_bytes bytes) → DisplaysOnOk took g (Ok tt) (styled_digits_output d s) h → Going took f whole h (hex_bytes left)
  byte_written d s n bytes left g h small e k is going shown =
      one_more took f whole g (hex_bytes (n ∷ [])) (hex_bytes left) h (subst (Going took f whole g) (ap hex_bytes is) going) (subst (λ o. DisplaysOnOk took g (Ok tt) o h) (byte_shown d s n small e k) shown)
