-- Lines of text: how they are put together, and how long they are. Assumes nothing.
use mathlib.Core.Path.{◌≡◌, refl, sym, ap, ◌∙◌}
use mathlib.Core.List.{List, [], ◌∷◌, ◌++◌, append_assoc, append-nil, foldr}
use Prim.Native.Nat.{ℕ, ◌+◌, ◌*◌, ◌^◌, ◌<◌, ◌≤◌}
use native.Mathlib.Omega.{arith}
use native.Mathlib.Numerals.{add-one}
use lib.Dec.{lit<}
use lib.ListN.{length, take, get_or, length-append}
use lib.Seq.{take-suc}
use Rattle.text.specs.Decimal.{decimal}
use Rattle.text.specs.Written.{Written}
use Rattle.text.proofs.WrittenLaws.{written_none, written_then, written-length, written_as}
use Rattle.text.proofs.DecimalLaws.{decimal-short}
use Rattle.report.specs.ProofText.{space, newline, line}
use Rattle.report.specs.Printed.{Printed, number, numbers}

-- the words of a u32 and a usize have at most 10 and 20 digits
pub word-digits : (n : ℕ) → n < 2 ^ 32 → length (decimal n) ≤ 10
word-digits n h = decimal-short 9 n (omega (arith, lit< {m = 2 ^ 32} {n = 10 ^ 10} tt))

pub place_digits : (n : ℕ) → n < 2 ^ 64 → length (decimal n) ≤ 20
place_digits n h = decimal-short 19 n (omega (arith, lit< {m = 2 ^ 64} {n = 10 ^ 20} tt))

numbers_append : (l m : List ℕ) → numbers (l ++ m) ≡ numbers l ++ numbers m
unfolding numbers
numbers_append [] m = refl
numbers_append (w ∷ l) m = ap (λ t. number w ++ t) (numbers_append l m) ∙ sym (append_assoc (number w) (numbers l) (numbers m))

-- one word more
numbers_more : (ws : List ℕ) (i : ℕ) → i < length ws → numbers (take i ws) ++ number (get_or ws i 0) ≡ numbers (take (i + 1) ws)
unfolding numbers
numbers_more ws i h =
    let more : take (i + 1) ws ≡ take i ws ++ (get_or ws i 0 ∷ []) = ap (λ n. take n ws) (add-one i) ∙ take-suc ws i 0 h in
    sym
    (ap numbers more ∙ numbers_append (take i ws) (get_or ws i 0 ∷ []) ∙ ap (λ t. numbers (take i ws) ++ t) (append-nil (number (get_or ws i 0))))

-- a line by its parts
words_then : (ws end : List ℕ) → numbers ws ++ end ≡ foldr (λ w rest. space ∷ (decimal w ++ rest)) end ws
unfolding numbers
words_then [] end = refl
words_then (w ∷ ws) end = ap (λ t. space ∷ t) (append_assoc (decimal w) (numbers ws) end ∙ ap (λ t. decimal w ++ t) (words_then ws end))

line_in_parts : (name ws : List ℕ) → name ++ (numbers ws ++ (newline ∷ [])) ≡ line name ws
unfolding line
line_in_parts name ws = ap (λ t. name ++ t) (words_then ws (newline ∷ []))

-- texts one after the other
module _ {b c d s t : List ℕ} {at place end m n : ℕ} where
  pub printed_then : Printed b at s m place c → Printed c place t n end d → Printed b at (s ++ t) (m + n) end d
  printed_then first second =
      record {
        written = written_then first.written second.written;
        short = omega (arith, length-append s t, first.short, second.short);
      }

pub printed_within : {b c t : List ℕ} {at place m n : ℕ} → Printed b at t m place c → m ≤ n → Printed b at t n place c
printed_within p h = record { written = p.written; short = omega (arith, p.short) }

-- the place after a text
pub printed_place : {b c t : List ℕ} {at place m : ℕ} → Printed b at t m place c → place ≤ at + m
printed_place p = omega (arith, p.written.next, p.short)

pub printed_length : {b c t : List ℕ} {at place m : ℕ} → Printed b at t m place c → length c ≡ length b
printed_length p = written-length p.written

pub printed_as : {b c s t : List ℕ} {at place m : ℕ} → s ≡ t → Printed b at s m place c → Printed b at t m place c
printed_as e p = rw e at p

-- no word yet, and one more
pub numbers-none : (b : List ℕ) (at : ℕ) → at ≤ length b → Printed b at (numbers []) (11 * 0) at b
unfolding numbers
numbers-none b at h = record { written = written_none b at h; short = omega arith }

pub number_added : {b c d : List ℕ} {at place end : ℕ} (ws : List ℕ) (i : ℕ) → i < length ws
    → Printed b at (numbers (take i ws)) (11 * i) place c
    → get_or ws i 0 < 2 ^ 32 → Written c place (number (get_or ws i 0)) end d
    → Printed b at (numbers (take (i + 1) ws)) (11 * (i + 1)) end d
number_added {b} {c} {d} {at} {place} {end} ws i h before low added =
    let more = numbers_more ws i h in
    record {
      written = written_as more (written_then before.written added);
      short =
          omega (
            arith,
            ap length more,
            length-append (numbers (take i ws)) (number (get_or ws i 0)),
            before.short,
            word-digits (get_or ws i 0) low,
          );
    }

-- a line from its name, its words and its end
pub line_printed : {b c : List ℕ} {at place most : ℕ} (name ws : List ℕ) → length (numbers ws) ≤ most
    → Written b at (name ++ (numbers ws ++ (newline ∷ []))) place c → Printed b at (line name ws) (length name + most + 1) place c
line_printed {b} {c} {at} {place} {most} name ws short w =
    record {
      written = written_as (line_in_parts name ws) w;
      short =
          omega (
            arith,
            ap length (line_in_parts name ws),
            length-append name (numbers ws ++ (newline ∷ [])),
            length-append (numbers ws) (newline ∷ []),
          );
    }
