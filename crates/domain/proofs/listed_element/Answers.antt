-- `domain::listed_element` meets its contract. Assumes nothing.
use mathlib.Core.Path.{◌≡◌, sym, ap, ap₂, ◌∙◌}
use mathlib.Core.Bool.{true}
use mathlib.Core.List.{List}
use Prim.Native.Nat.{ℕ, ◌%◌}
use native.Mathlib.Nat.{mod-lt, mod-eq_of_lt}
use lib.ListN.{length, get_or}
use Rattle.field.specs.Prime.{Prime}
use Rattle.field.specs.Element.{Elem, words}
use Rattle.domain.specs.Size.{is_size}
use Rattle.domain.specs.Domain.{element, domain}
use Rattle.domain.specs.Qualifies.{Qualifies}
use Rattle.domain.proofs.SizeLaws.{size_positive}
use Rattle.domain.proofs.DomainLaws.{element-remainder}
use Rattle.domain.proofs.Fill.{length_rule_words, rule_word-at}
use Rattle.domain.proofs.listed_element.Goals as goal

-- the word at the remainder of i is that of element i
listed : {q : Prime} → Qualifies q → (n : ℕ) → is_size n ≡ true → (l : List ℕ) (i : ℕ) → l ≡ words (domain {q = q} n)
    → get_or l (i % length l) 0 ≡ (element {q = q} n i).word
unfolding domain
listed {q} Q n size l i e =
    ap₂ (λ (l : List ℕ) (k : ℕ). get_or l (i % k) 0) e (ap length e ∙ length_rule_words n (element {q = q} n))
    ∙ rule_word-at n (element n) (i % n) (mod-lt i (size_positive n size))
    ∙ ap (λ (a : Elem q). a.word) (element-remainder Q n size i)

pub returns-then-at-elements : goal.returns-then-at-elements
returns-then-at-elements c q Q n size e =
    let a = c.args in
    ap (λ (k : ℕ). get_or a.elements.now k 0) (sym (mod-eq_of_lt c.if-at-elements.true)) ∙ listed Q n size a.elements.now a.i e

pub returns : goal.returns
returns c q Q n size e =
    let a = c.args in
    listed Q n size a.elements.now a.i e
