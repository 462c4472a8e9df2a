-- What is found on a line, the first wrong line, and the circuits that are kept. Assumes nothing.
use Rattle.std.proofs.Common.{◌≡◌, refl, sym, ap, ◌∙◌, arith, Bool, true, false, List, [], ◌∷◌, ◌++◌, map, ℕ, suc, ◌+◌, ◌<◌, eqb, length, take, drop, get_or, length-append, add-one}
use Rattle.std.specs.Prelude.{Option, Some, None, Result, Ok, Err}
use Rattle.std.proofs.Math.Option as math
use Rattle.std.proofs.Math.Option.{none, some}
use mathlib.Core.List.{map-append, append-nil}
use mathlib.Core.Logic.{inl, inr}
use Rattle.std.specs.List.{enumerate_from}
use Rattle.std.proofs.lemmas.List.{at_drop_more, take_more, take-append-drop, length-map, length-take-le}
use Rattle.std.proofs.lemmas.List.FromFn.{get_or-enumerate_from, length-enumerate_from}
use Rattle.algebra.specs.Lists.{pick}
use Rattle.algebra.proofs.Choice.{pick_true, pick-false}
use Rattle.sheet_lines.specs.declared.numbers.Request.{Request}
use Rattle.sheet_lines.specs.declared.numbers.Wrong as declared-wrong
use Rattle.sheet_lines.specs.declared.numbers.Wrong.TheVariants.{NotSix}
use Rattle.sheet_lines.specs.Lines.{Given, Line, Blank, Circuit, Wrong, sheet_refusal, circuit_line, lines_of, line_by, line_of, wrong, wrong_text, circuits}
use Rattle.sheet_lines.specs.Meanings.{given, found_line, message_of, Kept, Counted}
use Rattle.sheet_lines.specs.Numbers.{numbers_after, numbers_in}
use Rattle.sheet_lines.specs.Scanning.{request_by, reading_of}
use Rattle.sheet_lines.proofs.LineLaws.{parts, Covers, parts_cover}

-- a line by what was read on it
abbrev Read : Type 0
Read = Result (Option Request) declared-wrong.Wrong

abbrev pub reading_line : Read → Line
reading_line (Ok None) = Blank
reading_line (Ok (Some r)) = circuit_line (given r) (sheet_refusal (given r))
reading_line (Err w) = Wrong (message_of w)

choose : (t : Bool) (a b : Read) → reading_line (pick t a b) ≡ pick t (reading_line a) (reading_line b)
choose true a b = ap reading_line (pick_true a b refl) ∙ sym (pick_true (reading_line a) (reading_line b) refl)
choose false a b = ap reading_line (pick-false a b refl) ∙ sym (pick-false (reading_line a) (reading_line b) refl)

by_reading : (o : math.Option (List ℕ)) → reading_line (reading_of o) ≡ line_by o
by_reading none = refl
by_reading (some ns) =
    choose (eqb (length ns) 0) (Ok None) (pick (eqb (length ns) 6) (Ok (Some (request_by ns))) (Err NotSix))
    ∙ ap (pick (eqb (length ns) 0) Blank) (choose (eqb (length ns) 6) (Ok (Some (request_by ns))) (Err NotSix))

pub line_read : (line : List ℕ) (r : Read) → r ≡ reading_of (numbers_in line) → reading_line r ≡ line_of line
unfolding line_of
line_read line r e = ap reading_line e ∙ by_reading (numbers_in line)

-- lines with a blank one after them
empty_is_blank : line_of [] ≡ Blank
unfolding line_of numbers_in numbers_after pick
empty_is_blank = refl

wrong-blank : (n : ℕ) (ls : List Line) → wrong n (ls ++ (Blank ∷ [])) ≡ wrong n ls
wrong-blank n [] = refl
wrong-blank n (Blank ∷ ls) = wrong-blank (suc n) ls
wrong-blank n (Circuit g ∷ ls) = wrong-blank (suc n) ls
wrong-blank n (Wrong message ∷ ls) = refl

circuits-append : (a b : List Line) → circuits (a ++ b) ≡ circuits a ++ circuits b
circuits-append [] b = refl
circuits-append (Blank ∷ a) b = circuits-append a b
circuits-append (Circuit g ∷ a) b = ap (λ l. g ∷ l) (circuits-append a b)
circuits-append (Wrong message ∷ a) b = circuits-append a b

circuits-blank : (ls : List Line) → circuits (ls ++ (Blank ∷ [])) ≡ circuits ls
circuits-blank ls = circuits-append ls (Blank ∷ []) ∙ append-nil (circuits ls)

-- what is said of the lines of a text, said of its parts
module _ {T : Type 0} (F : List Line → T) (blank : (ls : List Line) → F (ls ++ (Blank ∷ [])) ≡ F ls) where
  covered : (ps ls : List (List ℕ)) → Covers ps ls → F (map line_of ps) ≡ F (map line_of ls)
  covered ps ls (inl e) = ap (λ l. F (map line_of l)) e
  covered ps ls (inr e) =
      ap (λ l. F (map line_of l)) e ∙ ap F (map-append line_of ls ([] ∷ []))
      ∙ ap (λ b. F (map line_of ls ++ (b ∷ []))) empty_is_blank ∙ blank (map line_of ls)

pub wrong-parts : (n : ℕ) (text : List ℕ) → wrong n (map line_of (parts text)) ≡ wrong n (map line_of (lines_of text))
wrong-parts n text = covered (wrong n) (wrong-blank n) (parts text) (lines_of text) (parts_cover text)

pub circuits-parts : (text : List ℕ) → circuits (map line_of (parts text)) ≡ circuits (map line_of (lines_of text))
circuits-parts text = covered circuits circuits-blank (parts text) (lines_of text) (parts_cover text)

-- a member of a list with its place
pub placed : (ps : List (List ℕ)) (n i : ℕ) (p : List ℕ)
    → (n < length (enumerate_from 0 ps)) × (◌≡◌ {A = ℕ × List ℕ} (i, p) (get_or (enumerate_from 0 ps) n (i, p)))
    → (n < length ps) × (i ≡ n) × (p ≡ get_or ps n p)
placed ps n i p (below, at) =
    let within : n < length ps = omega (arith, length-enumerate_from 0 ps) in
    let same = at ∙ get_or-enumerate_from 0 ps n (i, p) within in
    let place : i ≡ 0 + n = ap (λ (q : ℕ × List ℕ). q.0) same in
    (within, omega (arith, place), ap (λ (q : ℕ × List ℕ). q.1) same)

module _ (ps : List (List ℕ)) (n : ℕ) (p : List ℕ) (below : n < length ps) (at : p ≡ get_or ps n p) where
  abbrev rest : List Line
  rest = map line_of (drop (n + 1) ps)

  next : (k : ℕ) → wrong k (map line_of (drop n ps)) ≡ wrong k (line_of p ∷ rest)
  next k = at_drop_more (λ l. wrong k (map line_of l)) ps n p below ∙ ap (λ q. wrong k (line_of q ∷ rest)) (sym at)

  -- the first line of those that are left is wrong, or it is not
  pub wrong_here : (k : ℕ) (message : List ℕ) → Wrong message ≡ line_of p → wrong k (map line_of (drop n ps)) ≡ some (wrong_text k message)
  wrong_here k message on = next k ∙ ap (λ l. wrong k (l ∷ rest)) (sym on)

  pub wrong_later : (k : ℕ) (o : Option Request) → found_line (Ok o) ≡ line_of p → wrong k (map line_of (drop n ps)) ≡ wrong (k + 1) rest
  wrong_later k o on = next k ∙ ap (λ l. wrong k (l ∷ rest)) (sym on) ∙ go o ∙ ap (λ m. wrong m rest) (sym (add-one k))
    where
      go : (o : Option Request) → wrong k (found_line (Ok o) ∷ rest) ≡ wrong (suc k) rest
      go None = refl
      go (Some r) = refl

  -- the circuits up to that line
  pub circuits-more : (f : Read) → found_line f ≡ line_of p
      → circuits (map line_of (take n ps)) ++ circuits (found_line f ∷ []) ≡ circuits (map line_of (take (n + 1) ps))
  circuits-more f on =
      ap (λ l. circuits (map line_of (take n ps)) ++ circuits (l ∷ [])) (on ∙ ap line_of at)
      ∙ sym (circuits-append (map line_of (take n ps)) (line_of (get_or ps n p) ∷ []))
      ∙ ap circuits (sym (map-append line_of (take n ps) (get_or ps n p ∷ [])))
      ∙ ap (λ l. circuits (map line_of l)) (sym (take_more ps n p below))

-- as many circuits as the first lines have
pub many_circuits : (ps : List (List ℕ)) (n k : ℕ) → k < length (circuits (map line_of (take n ps)))
    → k < length (circuits (map line_of ps))
many_circuits ps n k many = omega (arith, ap length whole, length-append (circuits front) (circuits back))
  where
    front : List Line
    front = map line_of (take n ps)

    back : List Line
    back = map line_of (drop n ps)

    whole : circuits (map line_of ps) ≡ circuits front ++ circuits back
    whole =
        ap (λ l. circuits (map line_of l)) (sym (take-append-drop n ps)) ∙ ap circuits (map-append line_of (take n ps) (drop n ps))
        ∙ circuits-append front back

-- the circuits that are kept are all of them, or there are more than 16
module _ {gs : List Given} {array : List Request} where
  pub kept_counted : {count : ℕ} → Kept gs array count → Counted gs array count
  kept_counted {count} K = record { long = K.long; counts = omega (arith, as_many); front = λ few. K.front }
    where
      as_many : length gs ≡ count
      as_many =
          ap length (sym K.front) ∙ length-map (take count array) given ∙ length-take-le count array (omega (arith, K.few, K.long))

  pub many_counted : length array ≡ 16 → 16 < length gs → Counted gs array 17
  many_counted long many = record { long = long; counts = omega (arith, many); front = λ few. absurd (omega (arith, few)) }
