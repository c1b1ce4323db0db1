-- What an analysis lists of a block, in words for people.
use Rattle.std.specs.Prelude.{◌≡◌, ℕ, List, ◌++◌, Ok, Err, Result, codes}
use Rattle.block_lines.specs.declared.line.Names.{Names}
use Rattle.fault.specs.Line.{fault_line}
use Rattle.findings.specs.Tables.{Analysed, Found, describe}
use Rattle.findings.specs.declared.refusal.FindingsFault.TheVariants.{Full}
use Rattle.findings.specs.declared.tables.FindingsTables.{FindingsTables}
use Rattle.block_lines.specs.Lines.{NamesOf}
use Rattle.text.specs.declared.place.Place.{Place}
use Rattle.findings.specs.declared.refusal.FindingsFault.{FindingsFault}
use Rattle.people.specs.Quoted.{counted_names}
use Rattle.people.specs.declared.names.Rules.{Rules}
use Rattle.people.specs.declared.names.Rules.TheVariants.{CommonJs, Es}

-- the word for the rules of an analysis
abbrev pub rules_word : Rules → List ℕ
rules_word CommonJs = codes "CommonJS"
rules_word Es = codes "ES"

-- exports and re-exports of a text section
abbrev pub names_words : Rules → List ℕ → List Place → List Place → List ℕ
names_words rules T exports reexports =
    rules_word rules ++ (codes " exports: " ++ (counted_names T exports ++ (codes "\n" ++ (rules_word rules ++ (codes " re-exports: " ++ counted_names T reexports)))))

-- the fault and its reason
abbrev pub refusal_words : Rules → FindingsFault → List ℕ
refusal_words rules refusal =
    rules_word rules ++ (codes " rules: " ++ (fault_line (describe refusal) ++ codes ": a table has no row left for what is found at this place"))

-- what an analysis of a module's tree comes to, in words
abbrev pub outcome_words : Rules → ℕ → List ℕ → Result Found ℕ → List ℕ
outcome_words rules m T (Ok f) = names_words rules T f.exports f.reexports
outcome_words rules m T (Err row) = refusal_words rules (Full m row)

-- the same by what stands in memory
abbrev pub listed_text : Rules → Result Names FindingsFault → List ℕ
listed_text rules (Ok n) = names_words rules n.text.now n.exports.now n.reexports.now
listed_text rules (Err refusal) = refusal_words rules refusal

-- the names that tables hold, or the refusal
abbrev pub NamesListed : List ℕ → Result (Unit {0}) FindingsFault → FindingsTables → Result Names FindingsFault → Type 0
NamesListed T (Ok _) t (Ok n) = NamesOf T t n
NamesListed T (Ok _) t (Err e) = ⊥
NamesListed T (Err e) t r = r ≡ Err e

-- words are those of each analysis that answers so and leaves these tables
abbrev pub Lists : Rules → List ℕ → Result (Unit {0}) FindingsFault → FindingsTables → List ℕ → Type 0
Lists rules T answer t words = (m : ℕ) (s : FindingsTables) (o : Result Found ℕ) → Analysed m s o answer t → words ≡ outcome_words rules m T o
