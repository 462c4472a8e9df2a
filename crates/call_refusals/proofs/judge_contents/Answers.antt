-- `call_refusals::judge_contents` meets its contract: each row where the rows before it do not refuse. Assumes nothing.
use mathlib.Core.Path.{◌≡◌, refl, sym, ap, ap₂, ◌∙◌, subst⁻¹}
use mathlib.Core.Bool.{true}
use mathlib.Core.List.{List, [], ◌∷◌, ◌++◌, map, tail}
use mathlib.Core.Option.{Option, none}
use Prim.Native.Nat.{ℕ}
use native.Mathlib.Omega.{arith}
use lib.ListN.{length}
use Rattle.field.specs.Prime.{Prime}
use Rattle.field.specs.Element.{of}
use Rattle.domain.specs.Size.{is_size}
use Rattle.domain.proofs.SizeLaws.{size_bound}
use Rattle.protocol.specs.Circuit.{Circuit, sizes_of, largest}
use Rattle.protocol.specs.Refusals.{Refusal, first, word_refusal, entry_refusal, challenge_refusal, constant_refusal}
use Rattle.protocol.specs.Admission.{entry_values, refusals_after_circuit}
use Rattle.protocol.specs.Calls.{entries_of, circuit_of}
use Rattle.circuit.specs.Given.{circuit_words, EachWithin}
use Rattle.circuit.specs.Judgement.{contents_refusal}
use Rattle.shared.proofs.EarlyReturns.{stops, goes_on, last_answer_lem}
use Rattle.circuit.proofs.Parts.{largest_by_counts, larger_is_size, entries-within}
use Rattle.call_refusals.proofs.judge_contents.Goals as goal
use Rattle.call_refusals.proofs.judge_contents.Goals.{Start}

-- what is to be answered, its row 6, and the rows after 9, after 13, after 8, after 7 and after 6
module _ (q : Prime) (k : Circuit) (s : Start) where
  abbrev due : Option Refusal
  due = contents_refusal q k s.args.input.now.z.now s.args.input.now.mask s.args.input.now.m.now s.args.challenges.now s.args.points.now

  abbrev words : Option Refusal
  words = word_refusal q (entry_values k ++ (s.args.input.now.z.now ++ (s.args.input.now.mask ∷ (s.args.input.now.m.now ++ s.args.challenges.now))))

  abbrev after-entries : List (Option Refusal)
  after-entries = refusals_after_circuit q k s.args.input.now.z.now s.args.input.now.m.now s.args.points.now

  abbrev after-mask : List (Option Refusal)
  after-mask = tail after-entries

  abbrev after-constant : List (Option Refusal)
  after-constant = tail after-mask

  abbrev after-rows : List (Option Refusal)
  after-rows = tail after-constant

  abbrev after-words : List (Option Refusal)
  after-words = entry_refusal k ∷ after-entries

-- past the words, the entries, the mask, column 0 and the rows
module _ (q : Prime) (k : Circuit) (s : Start) {x : Option Refusal} where
  pass_words : none ≡ words q k s → x ≡ first (after-words q k s) → x ≡ due q k s
  unfolding contents_refusal
  pass_words e y = goes_on e (after-words q k s) y

  pass_entries : none ≡ words q k s → none ≡ entry_refusal k → x ≡ first (after-entries q k s) → x ≡ due q k s
  pass_entries e f y = pass_words e (goes_on f (after-entries q k s) y)

pub check_call_words-requires : goal.check_call_words-requires
check_call_words-requires c =
    let h = c.requires.shaped in
    let bound = size_bound c.args.input.now.circuit.c h.circuit.C-size in
    record {
      three_lists = h.circuit.lists;
      z_len_bound = (omega (arith, h.z-length, bound), omega (arith, h.m-length, bound));
    }

pub returns-in_err-check_call_words : goal.returns-in_err-check_call_words
unfolding contents_refusal
returns-in_err-check_call_words c q Q e k er ec matrices =
    let s = (goal.at.returns-in_err-check_call_words c).Start in
    stops _ _ c.from_residual.ensures.1 (c.in_err-check_call_words.ensures q e k matrices) (after-words q k s)

pub returns-in_err-check_three_entries : goal.returns-in_err-check_three_entries
returns-in_err-check_three_entries c q Q e k er ec matrices =
    let s = (goal.at.returns-in_err-check_three_entries c).Start in
    pass_words q k s (c.in_ok-check_call_words.ensures q e k matrices)
    (stops _ _ c.from_residual-in_err-check_three_entries.ensures.1 (c.in_err-check_three_entries.ensures k er ec matrices) (after-entries q k s))

pub returns-in_err-check_mask : goal.returns-in_err-check_mask
returns-in_err-check_mask c q Q e k er ec matrices =
    let s = (goal.at.returns-in_err-check_mask c).Start in
    pass_entries q k s (c.in_ok-check_call_words.ensures q e k matrices) (c.in_ok-check_three_entries.ensures k er ec matrices)
    (stops _ _ c.from_residual-in_err-check_mask.ensures.1 (c.in_err-check_mask.ensures q Q e k ec) (after-mask q k s))

pub returns-in_err-judge_constant : goal.returns-in_err-judge_constant
unfolding constant_refusal
returns-in_err-judge_constant c q Q e k er ec matrices =
    let s = (goal.at.returns-in_err-judge_constant c).Start in
    pass_entries q k s (c.in_ok-check_call_words.ensures q e k matrices) (c.in_ok-check_three_entries.ensures k er ec matrices)
    (goes_on (c.in_ok-check_mask.ensures q Q e k ec) (after-mask q k s)
    (stops _ _ c.from_residual-in_err-judge_constant.ensures.1 c.in_err-judge_constant.ensures (after-constant q k s)))

-- the circuit that the call is given
abbrev circuit : Start → Circuit
circuit s = circuit_of (circuit_words s.args.input.now.circuit)

pub check_assignment-requires : goal.check_assignment-requires
unfolding circuit_of
check_assignment-requires c =
    let s = (goal.at.check_assignment-requires c).Start in
    let h = c.requires.shaped in
    let k = c.args.input.now.circuit in
    let lists = k.matrices in
    record {
      p_nonzero = omega arith;
      r_le_max_size = size_bound k.r h.circuit.R-size;
      each_within = subst⁻¹ (λ (n : ℕ). EachWithin k.r n lists.a.now lists.b.now lists.c.now) h.z-length
          (entries-within k.r k.c k.x lists.a.now lists.b.now lists.c.now (sym (c.in_ok-check_three_entries.ensures (circuit s) refl refl refl)));
    }

pub returns-in_err-check_assignment : goal.returns-in_err-check_assignment
unfolding constant_refusal
returns-in_err-check_assignment c q Q e k er ec matrices =
    let s = (goal.at.returns-in_err-check_assignment c).Start in
    pass_entries q k s (c.in_ok-check_call_words.ensures q e k matrices) (c.in_ok-check_three_entries.ensures k er ec matrices)
    (goes_on (c.in_ok-check_mask.ensures q Q e k ec) (after-mask q k s)
    (goes_on c.in_ok-judge_constant.ensures (after-constant q k s)
    (stops _ _ c.from_residual-in_err-check_assignment.ensures.1 (c.in_err-check_assignment.ensures q e k er matrices) (after-rows q k s))))

pub check_points-requires : goal.check_points-requires
unfolding circuit_of
check_points-requires c =
    let s = (goal.at.check_points-requires c).Start in
    let h = c.requires.shaped in
    let lists = c.args.input.now.circuit.matrices in
    let size : is_size c.largest_size.result ≡ true =
    ap is_size (c.largest_size.ensures (circuit s) refl ∙ largest_by_counts (circuit s) lists.a.now lists.b.now lists.c.now refl)
    ∙ larger_is_size (length (entries_of lists.a.now)) (length (entries_of lists.b.now)) (length (entries_of lists.c.now)) in
    record {
      lt_p = c.requires.lt_p;
      r_value = (h.circuit.R-size, (h.circuit.C-size, size));
      points_len_bound = c.requires.points_len_bound;
    }

pub returns : goal.returns
unfolding constant_refusal
returns c q Q e k er ec matrices =
    let s = (goal.at.returns c).Start in
    let i = c.args.input.now.circuit in
    let same : i.r ∷ i.c ∷ c.largest_size.result ∷ [] ≡ k.|R| ∷ k.|C| ∷ largest (sizes_of k).|K| ∷ [] =
    ap₂ ◌∷◌ (sym er) (ap₂ ◌∷◌ (sym ec) (ap (λ (n : ℕ). n ∷ []) (c.largest_size.ensures k matrices))) in
    pass_entries q k s (c.in_ok-check_call_words.ensures q e k matrices) (c.in_ok-check_three_entries.ensures k er ec matrices)
    (goes_on (c.in_ok-check_mask.ensures q Q e k ec) (after-mask q k s)
    (goes_on c.in_ok-judge_constant.ensures (after-constant q k s)
    (goes_on (c.in_ok-check_assignment.ensures q e k er matrices) (after-rows q k s)
    (last_answer_lem (c.check_points.ensures q Q e ∙ ap (λ (ns : List ℕ). challenge_refusal {q = q} 0 ns (map of c.args.points.now)) same)))))
