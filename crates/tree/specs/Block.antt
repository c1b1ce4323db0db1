-- A tree block: its header, its rows and its text, as read from its bytes.
use Rattle.std.specs.Prelude.{◌≡◌, ℕ, ◌+◌, ◌*◌, ◌/◌, ◌%◌, ◌<◌, ◌≤◌, List, map, length}
use Rattle.std.specs.List.{range_with_len}
use Rattle.text.specs.Number.{le32}
use Rattle.text.specs.Place.{stretch}
use Rattle.tree.specs.declared.layout.Sections.{Sections}
use Rattle.tree.specs.declared.row.Row.{Row}
use Rattle.tree.specs.declared.row.Rows.{Rows}

-- the header: the places of the rows and of the text
abbrev pub rows_offset : List ℕ → ℕ
rows_offset block = le32 block 0

abbrev pub rows_length : List ℕ → ℕ
rows_length block = le32 block 4

abbrev pub text_offset : List ℕ → ℕ
text_offset block = le32 block 8

abbrev pub text_length : List ℕ → ℕ
text_length block = le32 block 12

-- the block is neither too short nor too long, and its sections lie in it, one after the other
pub record LawfulLayout (block : List ℕ) : Type 0 where
  pub long_enough : 16 ≤ length block
  pub short_enough : length block ≤ 4194304
  pub rows_past_header : 16 ≤ rows_offset block
  pub some_row : 0 < rows_length block
  pub whole_rows : rows_length block % 20 ≡ 0
  pub few_rows : rows_length block ≤ 1310720
  pub rows_before_text : rows_offset block + rows_length block ≤ text_offset block
  pub text_inside : text_offset block + text_length block ≤ length block

-- the row at byte o of a rows section
abbrev pub row_in : List ℕ → ℕ → Row
row_in section o = record { kind = le32 section o; mark = le32 section (o + 4); offset = le32 section (o + 8); length = le32 section (o + 12); end = le32 section (o + 16) }

-- so many rows of twenty bytes
unfoldable pub rows_in : List ℕ → ℕ → List Row
rows_in section count = map (λ j. row_in section (20 * j)) (range_with_len 0 count)

-- rows from the twenty bytes of each
unfoldable pub rows_from : List (List ℕ) → List Row
rows_from rows = map (λ bytes. row_in bytes 0) rows

abbrev pub rows_of : Rows → List Row
rows_of r = rows_from r.bytes.now

-- the rows and the text of a block
abbrev pub rows : List ℕ → List Row
rows block = rows_in (stretch block (rows_offset block) (rows_length block)) (rows_length block / 20)

abbrev pub text : List ℕ → List ℕ
text block = stretch block (text_offset block) (text_length block)

-- the sections of a block with a lawful layout
pub record SectionsOf (block : List ℕ) (s : Sections) : Type 0 where
  pub layout : LawfulLayout block
  pub same_rows : rows_of s.rows ≡ rows block
  pub same_text : s.text.now ≡ text block
