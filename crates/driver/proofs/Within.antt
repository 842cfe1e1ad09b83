-- Whatever is replied: that a driver's talk ends, and what it has named then.
use Rattle.std.specs.Prelude.{Some, None}
use Prim.Native.Nat.{ℕ, zero, suc, ◌≤◌}
use mathlib.Core.Path.{◌≡◌, refl, ap, ◌∙◌}
use mathlib.Core.Bool.{Bool}
use mathlib.Core.List.{List, [], ◌∷◌, ◌++◌}
use native.Mathlib.Nat.{le_trans, le_of_suc-le-suc, not-suc-le-zero}
use Rattle.device.specs.declared.cycle.Cycle.{Cycle}
use Rattle.device.specs.Cycle.{cycle}
use Rattle.driver.specs.declared.machine.Driver.{Driver}
use Rattle.driver.specs.Machine.{Next}
use Rattle.driver.specs.declared.machine.Step.{Step}
use Rattle.driver.specs.Machine.{moved, step_of}
use Rattle.driver.specs.Talk.{Heard, heard_of, heard}
use Rattle.driver.proofs.Steps.{left_from, falls, asks-on, StepInRange, kept}
use Rattle.driver.proofs.Named.{Adds, stays, moves, as_cycle}

module _ (wp : Bool) where
  -- the talk after a cycle
  abbrev rest : (ℕ → ℕ) → ℕ → Step → Heard
  rest f n s = heard step_of wp (λ i. f (suc i)) n (step_of s.driver (f 0))

  abbrev turn : (ℕ → ℕ) → ℕ → Step → Next → Heard
  turn f n s x = elim x [ None ↦ heard_of [] s | Some (e, a) ↦ heard_of (cycle e wp a ∷ (rest f n s).cycles) (rest f n s).last ]

  -- once as many have been sent as are left, it has ended
  pub over : (n : ℕ) (f : ℕ → ℕ) (s : Step) → left_from s.next s.driver ≤ n → (heard step_of wp f n s).last.next ≡ None
  unfolding heard
  over zero f s = go s.next refl
    where
      go : (x : Next) → s.next ≡ x → left_from x s.driver ≤ 0 → s.next ≡ None
      go None q h = q
      go (Some (e, a)) q h = absurd (not-suc-le-zero h)
  over (suc n) f s = go s.next refl (over n (λ i. f (suc i)) (step_of s.driver (f 0)))
    where
      go : (x : Next) → s.next ≡ x → (left_from (step_of s.driver (f 0)).next (step_of s.driver (f 0)).driver ≤ n → (rest f n s).last.next ≡ None)
          → left_from x s.driver ≤ suc n → (turn f n s x).last.next ≡ None
      go None q ih h = q
      go (Some (e, a)) q ih h = ih (le_trans (falls s.driver (f 0)) (le_of_suc-le-suc h))

  -- the step that stands: of a state in range, that asks what was asked; and its state says what was named
  pub record Stands (before : List Cycle) (s : Step) (t : Heard) : Type 0 where
    pub kept : StepInRange t.last
    pub asked : t.last.driver ≡ moved s.driver t.last.driver.phase t.last.driver.count
    pub adds : Adds Cycle (as_cycle wp) before s t.last t.cycles

  pub stands : (n : ℕ) (f : ℕ → ℕ) (before : List Cycle) (s : Step) → StepInRange s → Stands before s (heard step_of wp f n s)
  unfolding heard
  stands zero f before s k = record { kept = k; asked = refl; adds = stays Cycle (as_cycle wp) before s }
  stands (suc n) f before s k = go s.next refl (λ b. stands n (λ i. f (suc i)) b (step_of s.driver (f 0)) (kept s.driver (f 0) k.range))
    where
      go : (x : Next) → s.next ≡ x → ((b : List Cycle) → Stands b (step_of s.driver (f 0)) (rest f n s)) → Stands before s (turn f n s x)
      go None q w = record { kept = k; asked = refl; adds = stays Cycle (as_cycle wp) before s }
      go (Some (e, a)) q w =
          let t = w (before ++ (cycle e wp a ∷ [])) in
          record {
            kept = t.kept;
            asked = t.asked ∙ ap (λ (d : Driver). moved d (rest f n s).last.driver.phase (rest f n s).last.driver.count) (asks-on s.driver (f 0));
            adds = moves Cycle (as_cycle wp) before s (rest f n s).last e a (rest f n s).cycles (f 0) q k.range t.adds;
          }
