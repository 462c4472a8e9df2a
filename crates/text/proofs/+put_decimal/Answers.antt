-- The proof of the cycle of calls {put_decimal}: the number falls. Assumes nothing.
use Rattle.std.proofs.Common.{[], ◌∷◌, ◌/◌, ◌%◌, length, sym, ap, ◌∙◌, length-append, arith}
use Rattle.text.specs.Decimal.{digit, decimal}
use Rattle.text.proofs.WrittenLaws.{written_then, written_as}
use Rattle.text.proofs.DecimalLaws.{decimal_digit, decimal_more}
use Rattle.text.proofs.+put_decimal.Goals as goal

pub put_byte-requires : goal.put_byte-requires
put_byte-requires t c = omega (arith, c.requires, ap length (decimal_digit c.args.n c.if-n-lt10.true))

pub returns-then-n-lt10 : goal.returns-then-n-lt10
returns-then-n-lt10 t c =
    written_as (ap (λ d. d ∷ []) c.digit_code.ensures ∙ sym (decimal_digit c.args.n c.if-n-lt10.true)) c.put_byte.ensures

pub put_decimal-next-requires : goal.put_decimal-next-requires
put_decimal-next-requires t c =
    let n = c.args.n in (
      omega (arith, c.decreases),
      omega (arith, c.requires, ap length (decimal_more n c.if-n-lt10.false), length-append (decimal (n / 10)) (digit (n % 10) ∷ [])),
    )

pub put_byte-requires-2 : goal.put_byte-requires-2
put_byte-requires-2 t c =
    let n = c.args.n in
    omega (
      arith,
      c.requires,
      c.put_decimal-next.ensures.next,
      ap length (decimal_more n c.if-n-lt10.false),
      length-append (decimal (n / 10)) (digit (n % 10) ∷ []),
    )

pub returns : goal.returns
returns t c =
    written_as (sym (decimal_more c.args.n c.if-n-lt10.false))
    (written_then c.put_decimal-next.ensures (written_as (ap (λ d. d ∷ []) c.digit_code-2.ensures) c.put_byte-2.ensures))
