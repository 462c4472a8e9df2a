-- `figures::nth_line::put_line` meets its contract. Assumes nothing.
use Rattle.std.proofs.Common.{◌≡◌, sym, ap, ◌∙◌, arith, rules, tests, Bor, List, [], ℕ, length, get_or}
use Rattle.std.specs.Prelude.{Option, Some, None, IsSome}
use Rattle.std.specs.Option.{option_map}
use Rattle.std.proofs.lemmas.Iterator.Consumers.{nth_from_yields_List}
use Rattle.std.proofs.lemmas.Iterator.Splits.{YieldsList-from_slice_split}
use Rattle.text.proofs.WrittenLaws.{written_as}
use Rattle.sheet_lines.specs.Lines.{lines_of}
use Rattle.sheet_lines.proofs.LineLaws.{newline}
use Rattle.figures.proofs.NthLineLaws.{part_at}
use Rattle.figures.proofs.nth_line.put_line.Goals as goal
use Rattle.figures.proofs.nth_line.put_line.Goals.{After-nth}

-- the part that is found is the line
found : (c : After-nth) → option_map (λ x. x.now) c.nth.result ≡ Some (get_or (lines_of c.args.text.now) c.args.n [])
found c =
    nth_from_yields_List _ _ c.args.n c.nth.ensures.ran
    (YieldsList-from_slice_split _ newline c.args.text.now (cc) (cc) (cc) (λ x r q k. search (rules, tests)))
    ∙ part_at c.args.text.now c.args.n c.requires.n_in_bounds

is-some : (r : Option (Bor (List ℕ))) (l : List ℕ) → option_map (λ x. x.now) r ≡ Some l → IsSome r
is-some None l e = cc
is-some (Some x) l e = search rules

same_line : (r : Option (Bor (List ℕ))) (x : Bor (List ℕ)) (l : List ℕ) → option_map (λ x. x.now) r ≡ Some l → r ≡ Some x → x.now ≡ l
same_line r x l e is = let same : Some x.now ≡ Some l = sym (ap (option_map (λ x. x.now)) is) ∙ e in cc

pub unwrap-line-requires : goal.unwrap-line-requires
unwrap-line-requires c = is-some c.nth.result _ (found c)

pub put_bytes-requires : goal.put_bytes-requires
put_bytes-requires c =
    let same = same_line _ c.unwrap-line.result _ (found (goal.at.put_bytes-requires c).After-nth) c.unwrap-line.ensures in
    omega (arith, c.requires.n_in_bounds_2, ap length same)

pub returns : goal.returns
returns c = written_as (same_line _ c.unwrap-line.result _ (found (goal.at.returns c).After-nth) c.unwrap-line.ensures) c.put_bytes.ensures
