-- `blinding::columns::is_reservable` meets its contract. Assumes nothing.
use Rattle.std.proofs.Common.{◌≡◌, sym, ap, ◌∙◌, ℕ, List, Bool, ◌||◌, ◌-◌, arith}
use Rattle.algebra.specs.Lists.{any}
use Rattle.domain.proofs.SizeLaws.{size_positive}
use Rattle.protocol.specs.Calls.{entries_of}
use Rattle.protocol.specs.Blinded.{stands_reserved}
use Rattle.blinding.proofs.Reserved.{too_few, by_entries}
use Rattle.blinding.proofs.columns.is_reservable.Goals as goal
use Rattle.blinding.proofs.columns.is_reservable.Goals.{then-any_reserved, else-any_reserved, then-any_reserved-2, else-any_reserved-2}

pub returns-then-circuit-lt3 : goal.returns-then-circuit-lt3
returns-then-circuit-lt3 c k rows columns publics matrices =
    let lists = c.args.circuit.now.matrices in
    too_few k columns publics c.requires lists.a.now lists.b.now lists.c.now matrices c.if-circuit-lt3.true

pub overflow_sub-last : goal.overflow_sub-last
overflow_sub-last c = omega (arith, size_positive _ c.requires.R-size)

pub returns : goal.returns
returns c k rows columns publics matrices =
    let a = c.args.circuit.now.matrices in
    let found : List ℕ → Bool = λ l. any (stands_reserved k) (entries_of l) in
    let last = ap (λ n. n - 1) rows in
    let same = sym (c.reserved_columns-columns.ensures k columns publics) in
    let in_a = c.any_reserved.ensures k last same in
    let first : c.if-any_reserved.value ≡ (found a.a.now || found a.b.now) = elim c.if-any_reserved.branch [
      | then-any_reserved w ↦ let e : found a.a.now ≡ _ = sym in_a ∙ w.if-any_reserved.true in
          rw e (w.value-is ∙ w.if-any_reserved.true)
      | else-any_reserved w ↦ let e : found a.a.now ≡ _ = sym in_a ∙ w.if-any_reserved.false in
          rw e (w.value-is ∙ w.any_reserved-else-any_reserved.ensures k last same)
    ] in
    let second : c.if-any_reserved-2.result ≡ ((found a.a.now || found a.b.now) || found a.c.now) = elim c.if-any_reserved-2.branch [
      | then-any_reserved-2 w ↦ let e : (found a.a.now || found a.b.now) ≡ _ = sym first ∙ w.if-any_reserved-2.true in
          rw e (w.result-is ∙ w.if-any_reserved-2.true)
      | else-any_reserved-2 w ↦ let e : (found a.a.now || found a.b.now) ≡ _ = sym first ∙ w.if-any_reserved-2.false in
          rw e (w.result-is ∙ w.any_reserved-else-any_reserved-2.ensures k last same)
    ] in
    by_entries k columns publics c.requires a.a.now a.b.now a.c.now matrices (omega arith) second
