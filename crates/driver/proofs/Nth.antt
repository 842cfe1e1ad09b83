-- The writes of a command one by one, whichever the command.
use Prim.Native.Nat.{ℕ, ◌+◌, ◌≤◌, ◌<◌}
use mathlib.Core.Path.{◌≡◌, refl, ◌∙◌}
use mathlib.Core.List.{List}
use native.Mathlib.Omega.{arith}
use lib.Dec.{eqb}
use lib.ListN.{get_or}
use Rattle.parts.specs.Pick.{pick}
use Rattle.parts.specs.declared.table.Row.{Row}
use Rattle.parts.proofs.Every.{split}
use Rattle.commands.specs.declared.write.Write.{Write}
use Rattle.driver.specs.Writes.{no_write, write, last_write, writes_of, write_count, nth_write}

-- what stands at a place of a list
abbrev At : ℕ → Write → List Write → Type 0
At k w ws = get_or ws k no_write ≡ w

module _ (r : Row) (command a x k : ℕ) where
  pub first-at : k ≡ 0 → nth_write r command a x k ≡ write r.u1 0xaa
  unfolding writes_of
  first-at e = rw e (split (At 0 (write r.u1 0xaa)) (eqb command 0) _ _ (λ _. refl) (λ _. refl))

  pub second_at : k ≡ 1 → nth_write r command a x k ≡ write r.u2 0x55
  unfolding writes_of
  second_at e = rw e (split (At 1 (write r.u2 0x55)) (eqb command 0) _ _ (λ _. refl) (λ _. refl))

  pub third_at : k ≡ 2 → nth_write r command a x k ≡ write r.u1 (pick (eqb command 0) 0xa0 0x80)
  unfolding writes_of
  third_at e = rw e (split (At 2 (write r.u1 (pick (eqb command 0) 0xa0 0x80))) (eqb command 0) _ _ (λ z. rw z) (λ z. rw z))

  -- of n writes: one that is not the last
  module _ (n : ℕ) (count : n ≡ write_count command) where
    pub fourth-at : k ≡ 3 → (k + 1 ≡ n → ⊥) → nth_write r command a x k ≡ write r.u1 0xaa
    unfolding writes_of write_count
    fourth-at e h = split (At k (write r.u1 0xaa)) (eqb command 0) _ _ (λ z. let q : n ≡ 4 = rw z at count in absurd (omega arith)) (λ z. rw e)

    pub fifth-at : 4 ≤ k → k < write_count command → (k + 1 ≡ n → ⊥) → nth_write r command a x k ≡ write r.u2 0x55
    unfolding writes_of write_count
    fifth-at l m h =
        split (At k (write r.u2 0x55)) (eqb command 0) _ _ (λ z. let q : n ≡ 4 = rw z at count in absurd (omega (arith, count)))
        (λ z. let q : n ≡ 6 = rw z at count in let e : k ≡ 4 = omega (arith, count) in rw e)

    -- the last
    pub last-at : k + 1 ≡ n → nth_write r command a x k ≡ last_write r command a x
    unfolding writes_of write_count
    last-at h =
        split (At k (last_write r command a x)) (eqb command 0) _ _
        (λ z. let q : k + 1 ≡ 4 = h ∙ (rw z at count) in let e : k ≡ 3 = omega arith in rw e)
        (λ z. let q : k + 1 ≡ 6 = h ∙ (rw z at count) in let e : k ≡ 5 = omega arith in rw e)

-- what the check proves `nth_write` by
pub ruleset places = (first-at, second_at, third_at, fourth-at, fifth-at, last-at)
