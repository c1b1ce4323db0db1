-- The names of a joined path have no slash in them.
use Rattle.std.proofs.Common.{ℕ, List, Option, Some, None}
use denote.Ref.{Bor}
use Rattle.paths.specs.Behind.{behind}
use Rattle.paths.specs.Joined.{joined_names}
use Rattle.paths.specs.declared.joined.Joined.{Joined}
use Rattle.paths.proofs.Together.{AllWhole, backwards_whole, lasting_whole}

behind_whole : (text : Option (Bor (List ℕ))) → AllWhole (behind text)
behind_whole None = tt
behind_whole (Some text) = backwards_whole text.now

pub names_whole : (joined : Joined) → AllWhole (joined_names joined)
names_whole joined = lasting_whole (behind joined.names.folder.text) (behind_whole joined.names.folder.text) (behind joined.names.specifier.text) (behind_whole joined.names.specifier.text) 0
