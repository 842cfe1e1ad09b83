use Rattle.std.proofs.Common.{rules, ℕ, ◌≡◌, ◌+◌, ◌<◌, ◌≤◌, zero, suc, List, get_or, arith, eqb, eqb-true, ◌∙◌, drop}
use Rattle.std.specs.Array.{IsFromFnResultFrom}
use Rattle.std.specs.Fn.{Called}
use denote.Param.Members.{Mut}
use Rattle.std.proofs.lemmas.Bool.{eqb-false}
use Rattle.parts.proofs.Every.{split}
use Rattle.jobfile.specs.Bytes.{field}
use Rattle.jobfile.proofs.bytes.bytes_at.Goals as goal

-- a closure that acts as h and stays as it is gives h's value at each place
each-is : {F : Type 0} (g : Mut F (ℕ × Unit {0}) ℕ) (f : F) (h : ℕ → ℕ) (ys : List ℕ) → ((j y : ℕ) (q : F) → Called g f (j, tt) y q → (q ≡ f) × (y ≡ h j))
    → (n i k : ℕ) → IsFromFnResultFrom g f ys i n → i ≤ k → k < i + n → get_or ys k 0 ≡ h k
each-is g f h ys acts zero i k r l m = absurd (omega arith)
each-is g f h ys acts (suc n) i k r l m =
    let a = acts i r.1 r.0 r.3 in
    split (λ (_ : ℕ). get_or ys k 0 ≡ h k) (eqb k i) 0 0
    (λ p. let e : k ≡ i = eqb-true _ _ p in rw e (r.2.1 0 ∙ a.1))
    (λ p. let e : i + 1 ≤ k = omega (arith, eqb-false _ _ p) in each-is g f h ys acts n (i + 1) k (rw a.0 at r.4) e (omega arith))

pub returns : goal.returns
returns g c = λ i h. each-is _ _ (λ j. field (drop c.args.a c.args.bytes.now) j 1) c.from_fn.result (λ j y q k. search rules) _ 0 i c.from_fn.ensures.items.each (omega arith) (omega (arith, h))
