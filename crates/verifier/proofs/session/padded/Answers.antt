-- `verifier::session::padded` meets its contract: the zeros after the words are those that stood there. Assumes nothing.
use Rattle.std.proofs.Common.{ap₂, ◌++◌, length}
use Rattle.std.proofs.lemmas.List.{drop-replicate}
use Rattle.domain.specs.Size.{max_size}
use Rattle.verifier.proofs.session.padded.Goals as goal

pub returns : goal.returns
returns c = ap₂ ◌++◌ c.copy_from_slice.ensures.after (drop-replicate (length c.args.words.now) max_size 0)
