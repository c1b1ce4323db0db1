-- Which bytes are a link shelf.
use Rattle.std.specs.Prelude.{ℕ, ◌+◌, ◌*◌, ◌<◌, ◌≤◌, List, length}
use Rattle.shelf.specs.Pairs.{LawfulBlocks, end_of}
use Rattle.link_shelf.specs.declared.link.Link.{Link}
use Rattle.link_shelf.specs.Links.{link, link_count, links_start, module_count}

-- a link is between modules of the shelf, and its specifier lies within it
pub record LawfulLink (bytes : List ℕ) (l : Link) : Type 0 where
  pub from_module : l.«module» < module_count bytes
  pub to_module : l.target < module_count bytes
  pub inside : end_of l.specifier ≤ length bytes

-- neither count is too small or too large, and there is room for the pairs and the links
pub record LawfulCounts (bytes : List ℕ) : Type 0 where
  pub some_module : 0 < module_count bytes
  pub few_modules : module_count bytes ≤ 64
  pub few_links : link_count bytes ≤ 4096
  pub long_enough : links_start bytes + 16 * link_count bytes ≤ length bytes

abbrev pub LawfulLinks : List ℕ → Type 0
LawfulLinks bytes = (i : ℕ) → i < link_count bytes → LawfulLink bytes (link bytes i)

pub record Lawful (bytes : List ℕ) : Type 0 where
  pub counts : LawfulCounts bytes
  pub blocks : LawfulBlocks bytes 8 (module_count bytes)
  pub links : LawfulLinks bytes
