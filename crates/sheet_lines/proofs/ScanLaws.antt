-- Reading a line byte by byte finds the numbers that the definition finds. Assumes nothing.
use Rattle.std.proofs.Common.{◌≡◌, refl, sym, ap, ◌∙◌, arith, Bool, true, false, List, [], ◌∷◌, ◌++◌, append_assoc, ℕ, ◌<◌, min, eqb, length, length-append}
use Rattle.std.specs.Prelude.{Option, Some, None, Result, Ok, Err}
use Rattle.std.proofs.Math.Option as math
use Rattle.std.proofs.Math.Option.{none, some}
use mathlib.Core.Path.{ap₂}
use mathlib.Core.List.{foldl, foldl-append, append-nil}
use borrow.Author.Tests.{eq-eqb, ne_eqb, eqb-true, eqb-false}
use Rattle.algebra.specs.Lists.{pick}
use Rattle.algebra.proofs.Choice.{pick_true, pick-false}
use Rattle.sheet_lines.specs.declared.numbers.Request.{Request}
use Rattle.sheet_lines.specs.declared.numbers.Scan.{Scan}
use Rattle.sheet_lines.specs.declared.numbers.Wrong.{Wrong}
use Rattle.sheet_lines.specs.declared.numbers.Wrong.TheVariants.{NotSix}
use Rattle.sheet_lines.specs.Numbers.{is_digit, is_blank, extend, ended, numbers_after, numbers_in}
use Rattle.sheet_lines.specs.Scanning.{number_read, pushed, counted, number_ended, stepped, scanned_on, scanned, no_numbers, request_by, reading_of}

-- what the state answers once the text has ended
abbrev pub counts : ℕ → Request → Result (Option Request) Wrong
counts count six = pick (eqb count 0) (Ok None) (pick (eqb count 6) (Ok (Some six)) (Err NotSix))

abbrev pub outcome : Option Scan → Result (Option Request) Wrong
outcome None = Err NotSix
outcome (Some s) = counts s.count s.six

-- the numbers that have ended, before the numbers to come
abbrev before : List ℕ → math.Option (List ℕ) → math.Option (List ℕ)
before ns none = none
before ns (some l) = some (ns ++ l)

before_ended : (ns : List ℕ) (n : ℕ) (o : math.Option (List ℕ)) → before ns (ended (some n) o) ≡ before (ns ++ (n ∷ [])) o
before_ended ns n none = refl
before_ended ns n (some l) = ap some (sym (append_assoc ns (n ∷ []) l))

before_none : (ns : List ℕ) (o : math.Option (List ℕ)) → before ns (ended none o) ≡ before ns o
before_none ns none = refl
before_none ns (some l) = refl

-- the state holds the count and the last six of the numbers that have ended
record Holds (ns : List ℕ) (count : ℕ) (six : Request) : Type 0 where
  counts : count ≡ min (length ns) 7
  last : six ≡ foldl pushed no_numbers ns

holds_more : (ns : List ℕ) (n count : ℕ) (six : Request) → Holds ns count six → Holds (ns ++ (n ∷ [])) (counted count) (pushed six n)
holds_more ns n count six h =
    record {
      counts = omega (arith, h.counts, length-append ns (n ∷ []));
      last = ap (λ q. pushed q n) h.last ∙ sym (foldl-append pushed no_numbers ns (n ∷ []));
    }

-- six numbers are the last six
all_six : (ns : List ℕ) → length ns ≡ 6 → foldl pushed no_numbers ns ≡ request_by ns
all_six (a ∷ b ∷ c ∷ d ∷ e ∷ f ∷ []) h = refl
all_six [] h = absurd (omega arith)
all_six (a ∷ []) h = absurd (omega arith)
all_six (a ∷ b ∷ []) h = absurd (omega arith)
all_six (a ∷ b ∷ c ∷ []) h = absurd (omega arith)
all_six (a ∷ b ∷ c ∷ d ∷ []) h = absurd (omega arith)
all_six (a ∷ b ∷ c ∷ d ∷ e ∷ []) h = absurd (omega arith)
all_six (a ∷ b ∷ c ∷ d ∷ e ∷ f ∷ g ∷ l) h = absurd (omega arith)

-- up to seven, the count of the numbers is their length
same_test : (ns : List ℕ) (count k : ℕ) → count ≡ min (length ns) 7 → k < 7 → eqb (length ns) k ≡ eqb count k
same_test ns count k e below = go (eqb (length ns) k) refl
  where
    go : (t : Bool) → eqb (length ns) k ≡ t → eqb (length ns) k ≡ eqb count k
    go true t = t ∙ sym (eq-eqb count k (omega (arith, eqb-true (length ns) k t)))
    go false t = t ∙ sym (ne_eqb count k (λ s. eqb-false (length ns) k t (omega arith)))

six_or_not : (ns : List ℕ) (count : ℕ) (six : Request) → Holds ns count six → reading_of (some ns) ≡ counts count six
six_or_not ns count six h = go (eqb (length ns) 6) refl
  where
    tests : reading_of (some ns) ≡ counts count (request_by ns)
    tests =
        ap₂ (λ (s t : Bool). pick s (Ok None) (pick t (Ok (Some (request_by ns))) (Err NotSix)))
        (same_test ns count 0 h.counts (omega arith))
        (same_test ns count 6 h.counts (omega arith))

    go : (t : Bool) → eqb (length ns) 6 ≡ t → reading_of (some ns) ≡ counts count six
    go true e = tests ∙ ap (counts count) (sym (h.last ∙ all_six ns (eqb-true (length ns) 6 e)))
    go false e =
        let no : eqb count 6 ≡ false = sym (same_test ns count 6 h.counts (omega arith)) ∙ e in
        tests
        ∙ ap (pick (eqb count 0) (Ok None))
        (pick-false (Ok (Some (request_by ns))) (Err NotSix) no ∙ sym (pick-false (Ok (Some six)) (Err NotSix) no))

abbrev state : Option ℕ → ℕ → Request → Scan
state number count six = record { number = number; count = count; six = six }

-- the numbers so far and those of the text to come are what the state answers in the end
abbrev Agrees : List ℕ → Scan → List ℕ → Type 0
Agrees l s ns = reading_of (before ns (numbers_after (number_read s.number) l)) ≡ outcome (scanned_on (Some s) l)

-- the number that was being read has ended, if there was one
agrees_ended : (l : List ℕ) (number : Option ℕ) (count : ℕ) (six : Request) (ns : List ℕ)
    → ((n : ℕ) → Agrees l (state None (counted count) (pushed six n)) (ns ++ (n ∷ [])))
    → Agrees l (state None count six) ns
    → reading_of (before ns (ended (number_read number) (numbers_after none l)))
    ≡ outcome (scanned_on (Some (number_ended (state number count six))) l)
unfolding number_ended
agrees_ended l (Some n) count six ns ended-one none_read = ap reading_of (before_ended ns n (numbers_after none l)) ∙ ended-one n
agrees_ended l None count six ns ended-one none_read = ap reading_of (before_none ns (numbers_after none l)) ∙ none_read

-- one byte more, by what it is
agrees_step : (b : ℕ) (l : List ℕ) (number : Option ℕ) (count : ℕ) (six : Request) (ns : List ℕ)
    → Agrees l (state (Some (extend (number_read number) b)) count six) ns
    → reading_of (before ns (ended (number_read number) (numbers_after none l)))
    ≡ outcome (scanned_on (Some (number_ended (state number count six))) l)
    → Agrees (b ∷ l) (state number count six) ns
unfolding numbers_after stepped
agrees_step b l number count six ns digit blank = go (is_digit b) refl (is_blank b) refl
  where
    read : math.Option (List ℕ) → Result (Option Request) Wrong
    read o = reading_of (before ns o)

    rest : Option Scan → Result (Option Request) Wrong
    rest s = outcome (scanned_on s l)

    go : (d : Bool) → is_digit b ≡ d → (k : Bool) → is_blank b ≡ k → Agrees (b ∷ l) (state number count six) ns
    go true e k f = ap read (pick_true _ _ e) ∙ digit ∙ sym (ap rest (pick_true _ _ e))
    go false e true f = ap read (pick-false _ _ e ∙ pick_true _ _ f) ∙ blank ∙ sym (ap rest (pick-false _ _ e ∙ pick_true _ _ f))
    go false e false f = ap read (pick-false _ _ e ∙ pick-false _ _ f) ∙ sym (ap rest (pick-false _ _ e ∙ pick-false _ _ f))

agrees : (l : List ℕ) (number : Option ℕ) (count : ℕ) (six : Request) (ns : List ℕ) → Holds ns count six
    → Agrees l (state number count six) ns
unfolding numbers_after number_ended
agrees [] (Some n) count six ns h = six_or_not (ns ++ (n ∷ [])) (counted count) (pushed six n) (holds_more ns n count six h)
agrees [] None count six ns h = ap (λ o. reading_of (some o)) (append-nil ns) ∙ six_or_not ns count six h
agrees (b ∷ l) number count six ns h =
    agrees_step b l number count six ns
    (agrees l (Some (extend (number_read number) b)) count six ns h)
    (agrees_ended l number count six ns
    (λ n. agrees l None (counted count) (pushed six n) (ns ++ (n ∷ [])) (holds_more ns n count six h))
    (agrees l None count six ns h))

pub scan_finds : (text : List ℕ) → reading_of (numbers_in text) ≡ outcome (scanned text)
unfolding numbers_in scanned
scan_finds text =
    ap reading_of (nothing_before (numbers_after none text)) ∙ agrees text None 0 no_numbers [] (record { counts = refl; last = refl })
  where
    nothing_before : (o : math.Option (List ℕ)) → o ≡ before [] o
    nothing_before none = refl
    nothing_before (some l) = refl
