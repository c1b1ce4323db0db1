-- A link shelf: its two counts, the blocks of its modules and its links, as read from its bytes.
use Rattle.std.specs.Prelude.{ℕ, ◌+◌, ◌*◌, List, map}
use Rattle.std.specs.List.{range_with_len}
use Rattle.text.specs.Number.{le32}
use Rattle.text.specs.Place.{stretch}
use Rattle.text.specs.declared.place.Place.{Place}
use Rattle.shelf.specs.Pairs.{pair, place_at}
use Rattle.link_shelf.specs.declared.link.Link.{Link}

-- how many modules the shelf counts, and how many links
abbrev pub module_count : List ℕ → ℕ
module_count bytes = le32 bytes 0

abbrev pub link_count : List ℕ → ℕ
link_count bytes = le32 bytes 4

-- the place of a module's block
abbrev pub block_place : List ℕ → ℕ → Place
block_place bytes m = pair bytes 8 m

-- the bytes of a module's block
abbrev pub block_of : List ℕ → ℕ → List ℕ
block_of bytes m = stretch bytes (block_place bytes m).offset (block_place bytes m).length

-- where the links begin: after the pairs of the blocks
abbrev pub links_start : List ℕ → ℕ
links_start bytes = 8 + 8 * module_count bytes

-- the link whose sixteen bytes begin at `at`
abbrev pub link_at : List ℕ → ℕ → Link
link_at bytes at = record { «module» = le32 bytes at; specifier = place_at bytes (at + 4); target = le32 bytes (at + 12) }

abbrev pub link : List ℕ → ℕ → Link
link bytes i = link_at bytes (links_start bytes + 16 * i)

-- the links in their order
unfoldable pub links : List ℕ → List Link
links bytes = map (link bytes) (range_with_len 0 (link_count bytes))

-- the specifier of a link
abbrev pub specifier_of : List ℕ → Link → List ℕ
specifier_of bytes l = stretch bytes l.specifier.offset l.specifier.length
