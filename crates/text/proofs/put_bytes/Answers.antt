-- `text::put_bytes` meets its contract. Assumes nothing.
use Rattle.std.proofs.Common.{◌≡◌, ℕ, ◌+◌, ◌-◌, List, ◌++◌, length, take, drop, refl, ap, ◌∙◌, arith}
use Rattle.std.proofs.lemmas.List.{drop-drop}
use Rattle.text.specs.Buffer.{put}
use Rattle.text.proofs.put_bytes.Goals as goal

pub returns : goal.returns
unfolding put
returns c =
    let out = c.args.out.now in
    let text = c.args.text.now in
    let at : ℕ = c.args.at in
    let long : at + (at + length text - at) ≡ at + length text = omega arith in
    record {
      room = c.requires;
      next = refl;
      result = rw c.copy_from_slice.ensures.after
          (ap (λ (l : List ℕ). take at out ++ (text ++ l)) (drop-drop (at + length text - at) at out ∙ ap (λ n. drop n out) long));
    }
