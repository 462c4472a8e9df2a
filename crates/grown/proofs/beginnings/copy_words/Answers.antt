-- `grown::beginnings::copy_words` meets its contract: the words stand before zeros. Assumes nothing.
use Rattle.std.proofs.Common.{ap, ◌∙◌, List, ℕ, ◌++◌, length, drop}
use Rattle.std.proofs.lemmas.List.{drop-replicate}
use Rattle.grown.proofs.beginnings.copy_words.Goals as goal

pub returns : goal.returns
returns c =
    let a = c.args in
    let m : ℕ = length a.words.now in
    c.copy_front.ensures ∙ ap (λ (d : List ℕ). a.words.now ++ drop m d) (c.fill.ensures.after (λ y e. e))
    ∙ ap (λ (d : List ℕ). a.words.now ++ d) (drop-replicate m (length a.out.now) 0)
