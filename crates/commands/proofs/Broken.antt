-- A write that does not continue the sequence begun is broken: F0H anywhere, save as program data, and the block code where there are no blocks, among them.
use Prim.Native.Nat.{ℕ, zero, suc, ◌%◌, ◌≤◌}
use mathlib.Core.Path.{◌≡◌, refl, sym}
use mathlib.Core.Bool.{Bool, true, false}
use mathlib.Core.List.{List, [], ◌∷◌}
use native.Mathlib.Omega.{arith}
use borrow.Author.Tests.{eq-eqb, ne_eqb, eqb-false}
use lib.Dec.{eqb}
use lib.ListN.{get_or}
use Rattle.parts.specs.Pick.{pick}
use Rattle.parts.specs.Table.{lines, no_line, row_from, row_of, part_refusal}
use Rattle.parts.specs.Span.{has_blocks}
use Rattle.parts.specs.declared.table.Row.{Row}
use Rattle.parts.specs.declared.table.Line.{Line}
use Rattle.parts.proofs.Every.{apart, unless, every, at, pick_same}
use Rattle.parts.proofs.Sound.{known, codes-differ}
use Rattle.commands.specs.Commands.{Wanted, AtU1, AtU2, At, Anything, is_wanted, broken, effect_of}

-- the writes that continue a sequence, stage by stage: with none begun AAH at U1; 55H at U2; then at U1 A0H, 90H, F0H or 80H;
-- after A0H any; after 80H AAH at U1, 55H at U2; then the sector or block code anywhere, or 10H at U1
abbrev pub continuing : Row → List (List Wanted)
continuing r =
    (AtU1 0xaa ∷ [])
    ∷ (AtU2 0x55 ∷ [])
    ∷ (AtU1 0xa0 ∷ AtU1 0x90 ∷ AtU1 0xf0 ∷ AtU1 0x80 ∷ [])
    ∷ (Anything ∷ [])
    ∷ (AtU1 0xaa ∷ [])
    ∷ (AtU2 0x55 ∷ [])
    ∷ (At r.sector_code ∷ At r.block_code ∷ AtU1 0x10 ∷ [])
    ∷ []

abbrev some : Row → ℕ → ℕ → List Wanted → Bool
some r a x [] = false
some r a x (w ∷ ws) = pick (is_wanted r a x w) true (some r a x ws)

-- a write continues the sequence that has come to a stage
abbrev pub continues : Row → ℕ → ℕ → ℕ → Bool
continues r s a x = some r a x (get_or (continuing r) s [])

neither : (b c : Bool) → pick b true c ≡ false → (b ≡ false) × (c ≡ false)
neither true c e = apart (sym e)
neither false c e = (refl, e)

-- a write that does not continue is broken
pub is-broken : (r : Row) (a x s : ℕ) → s ≤ 6 → continues r s a x ≡ false → effect_of r s a x ≡ broken
unfolding effect_of
is-broken r a x zero l c = simp (neither (is_wanted r a x (AtU1 0xaa)) false c).0
is-broken r a x (suc zero) l c = simp (neither (is_wanted r a x (AtU2 0x55)) false c).0
is-broken r a x (suc (suc zero)) l c =
    let f = neither (is_wanted r a x (AtU1 0xa0)) (some r a x (AtU1 0x90 ∷ AtU1 0xf0 ∷ AtU1 0x80 ∷ [])) c in
    let g = neither (is_wanted r a x (AtU1 0x90)) (some r a x (AtU1 0xf0 ∷ AtU1 0x80 ∷ [])) f.1 in
    let h = neither (is_wanted r a x (AtU1 0xf0)) (some r a x (AtU1 0x80 ∷ [])) g.1 in
    simp (f.0, g.0, h.0, (neither (is_wanted r a x (AtU1 0x80)) false h.1).0)
is-broken r a x (suc (suc (suc zero))) l c = apart (sym c)
is-broken r a x (suc (suc (suc (suc zero)))) l c = simp (neither (is_wanted r a x (AtU1 0xaa)) false c).0
is-broken r a x (suc (suc (suc (suc (suc zero))))) l c = simp (neither (is_wanted r a x (AtU2 0x55)) false c).0
is-broken r a x (suc (suc (suc (suc (suc (suc zero)))))) l c =
    let f = neither (is_wanted r a x (At r.sector_code)) (some r a x (At r.block_code ∷ AtU1 0x10 ∷ [])) c in
    let g = neither (is_wanted r a x (At r.block_code)) (some r a x (AtU1 0x10 ∷ [])) f.1 in
    simp (f.0, g.0, (neither (is_wanted r a x (AtU1 0x10)) false g.1).0)
is-broken r a x (suc (suc (suc (suc (suc (suc (suc s))))))) l c = absurd (omega arith)

-- no erase code is F0H
unlike : (part : ℕ) → part_refusal part ≡ 0 → (f : Row → ℕ) → every (λ (l : Line). pick (eqb (f (row_from l)) 0xf0) false true) lines ≡ true → f (row_of part) ≡ 0xf0 → ⊥
unfolding row_of
unlike part k f e = eqb-false _ _ (unless _ true (at (λ (l : Line). pick (eqb (f (row_from l)) 0xf0) false true) lines no_line e part (omega (arith, known part k)))).0

-- F0H is no other byte
module _ (r : Row) (a x : ℕ) (f : x % 256 ≡ 0xf0) (n : ℕ) (u : eqb 0xf0 n ≡ false) where
  not-at-u1 : is_wanted r a x (AtU1 n) ≡ false
  not-at-u1 = rw (f, u) (pick_same (eqb (a % r.compared) r.u1) false)

  not-at-u2 : is_wanted r a x (AtU2 n) ≡ false
  not-at-u2 = rw (f, u) (pick_same (eqb (a % r.compared) r.u2) false)

  not_at : is_wanted r a x (At n) ≡ false
  not_at = rw (f, u)

-- so it returns to read mode, as a command or as a broken write
pub resets : (part : ℕ) → part_refusal part ≡ 0 → (a x s : ℕ) → s ≤ 6 → (s ≡ 3 → ⊥) → x % 256 ≡ 0xf0 → effect_of (row_of part) s a x ≡ broken
unfolding effect_of
resets part k a x zero l n f = simp (not-at-u1 (row_of part) a x f 0xaa refl)
resets part k a x (suc zero) l n f = simp (not-at-u2 (row_of part) a x f 0x55 refl)
resets part k a x (suc (suc zero)) l n f =
    let r = row_of part in
    simp (not-at-u1 r a x f 0xa0 refl, not-at-u1 r a x f 0x80 refl, not-at-u1 r a x f 0x90 refl) (pick_same (is_wanted r a x (AtU1 0xf0)) broken)
resets part k a x (suc (suc (suc zero))) l n f = absurd (n refl)
resets part k a x (suc (suc (suc (suc zero)))) l n f = simp (not-at-u1 (row_of part) a x f 0xaa refl)
resets part k a x (suc (suc (suc (suc (suc zero))))) l n f = simp (not-at-u2 (row_of part) a x f 0x55 refl)
resets part k a x (suc (suc (suc (suc (suc (suc zero)))))) l n f =
    let r = row_of part in
    let sector = ne_eqb 0xf0 r.sector_code (λ e. unlike part k (λ (r : Row). r.sector_code) refl (sym e)) in
    let block = ne_eqb 0xf0 r.block_code (λ e. unlike part k (λ (r : Row). r.block_code) refl (sym e)) in
    simp (not_at r a x f r.sector_code sector, not_at r a x f r.block_code block, not-at-u1 r a x f 0x10 refl)
resets part k a x (suc (suc (suc (suc (suc (suc (suc s))))))) l n f = absurd (omega arith)

-- the block code on a part without blocks
pub no_blocks : (part : ℕ) → part_refusal part ≡ 0 → (a x : ℕ) → has_blocks (row_of part) ≡ false → x % 256 ≡ (row_of part).block_code → effect_of (row_of part) 6 a x ≡ broken
unfolding effect_of
no_blocks part k a x h f =
    let r = row_of part in
    simp (f, ne_eqb r.block_code r.sector_code (λ e. codes-differ part k (sym e)), eq-eqb r.block_code r.block_code refl, h)
