-- A started driver that is stepped on by any function that gives what `step_of` says comes only to states that the types hold; so it talks as by `step_of`.
use Rattle.std.specs.Prelude.{Some, None}
use Prim.Native.Nat.{ℕ, zero, suc, ◌+◌, ◌≤◌, ◌<◌, ◌^◌}
use mathlib.Core.Path.{◌≡◌, refl, ap, ◌∙◌}
use mathlib.Core.Bool.{Bool, true}
use mathlib.Core.List.{[], ◌∷◌}
use native.Mathlib.Omega.{arith}
use borrow.Author.Tests.{ltb-true, leb-true, eqb-true, eqb-false}
use lib.Dec.{eqb, ltb}
use lib.Pow.{pow_mono}
use Rattle.parts.specs.Table.{row_of, part_refusal}
use Rattle.parts.proofs.Every.{both, split}
use Rattle.parts.proofs.Values.{fits_lt}
use Rattle.parts.proofs.Sound.{known, width-most, cells-most}
use Rattle.device.specs.Cycle.{cycle, Chip}
use Rattle.device.specs.Trace.{after}
use Rattle.device.proofs.Cases.{shown-word}
use Rattle.driver.specs.declared.machine.Phase.{Phase}
use Rattle.driver.specs.declared.machine.Phase.TheVariants.{Writing, Polling, Confirming, Done, GaveUp, Differs}
use Rattle.driver.specs.declared.machine.Driver.{Driver}
use Rattle.driver.specs.Machine.{Next}
use Rattle.driver.specs.declared.machine.Step.{Step}
use Rattle.driver.specs.Refusals.{start_refusal}
use Rattle.driver.specs.Machine.{address_of, data_of, begun, count_fits, in_range, moved, step_of}
use Rattle.driver.specs.Talk.{Stepping, InTypes, AsSaid, Told, told, led, shows, talk, Heard, heard_of, heard}
use Rattle.driver.proofs.Asked as asks
use Rattle.driver.proofs.Ready.{usual, most-le, write-count-le, valid-count}
use Rattle.driver.proofs.Steps.{most, keeps, asks-on}
use Rattle.driver.proofs.Begins.{few-commands, start-range}

-- a count that fits its phase
count-le : (f : Phase) (w m n : ℕ) → count_fits f w m n ≡ true → n ≤ w + m
count-le Writing w m n h = omega (arith, ltb-true n w h)
count-le Polling w m n h = omega (arith, leb-true n m h)
count-le Confirming w m n h = omega (arith, leb-true n m (both (ltb 0 n) _ h).1)
count-le Done w m n h = omega (arith, leb-true n m (both (ltb 0 n) _ h).1)
count-le GaveUp w m n h = omega (arith, eqb-true n m h)
count-le Differs w m n h = omega (arith, leb-true n m (both (ltb 0 n) _ h).1)

module _ (part command a x p : ℕ) (accepted : start_refusal part command a x p ≡ 0) where
  abbrev b : Driver
  b = begun part command a x p

  start : asks.Begun part command a x p
  start = asks.begun part command a x p accepted

  listed : part_refusal part ≡ 0
  listed = start.asked.known

  -- a state that it comes to
  pub record Reached (d : Driver) : Type 0 where
    pub asked : d ≡ moved b d.phase d.count
    pub range : in_range d ≡ true

  pub reached-first : Reached b
  reached-first = record { asked = refl; range = start-range part command a x p accepted }

  pub reached-next : (d : Driver) (v : ℕ) → Reached d → Reached (step_of d v).driver
  reached-next d v w =
      record {
        asked = asks-on d v ∙ ap (λ (d' : Driver). moved d' (step_of d v).driver.phase (step_of d v).driver.count) w.asked;
        range = keeps d v w.range;
      }

  -- its numbers are those of its types
  pub in-types : (d : Driver) (v : ℕ) → Reached d → v < 2 ^ 16 → InTypes d v
  in-types d v w h =
      record {
        part = omega (arith, same (λ d. d.part), known part listed);
        command = omega (arith, same (λ d. d.command), few-commands part command a x p accepted);
        address = omega (arith, same (λ d. d.address), address-le);
        word = omega (arith, same (λ d. d.«data»), word_lt);
        p = omega (arith, same (λ d. d.p), start.most);
        count = omega (arith, count-le d.phase _ _ d.count (valid-count d w.range), write-count-le d.command, few);
        read = h;
      }
    where
      same : (g : Driver → ℕ) → g d ≡ g (moved b d.phase d.count)
      same g = ap g w.asked

      address-le : address_of command a ≤ 4194304
      address-le =
          split (λ (n : ℕ). n ≤ 4194304) (eqb command 3) 0 a (λ _. omega arith) (λ z. omega (arith, start.asked.target.there (eqb-false command 3 z), cells-most part listed))

      word_lt : data_of command x < 2 ^ 16
      word_lt =
          split (λ (n : ℕ). n < 2 ^ 16) (eqb command 0) x 0
          (λ z. omega (arith, fits_lt _ x (start.asked.target.fits (eqb-true command 0 z)), pow_mono (width-most part listed))) (λ _. omega arith)

      few : most d ≤ 280000
      few = most-le (row_of d.part) d.command d.p (rw (same (λ d. d.part)) (usual part listed))

  module _ (steps : Stepping) (said : AsSaid steps) (wp : Bool) where
    pub as_said : (d : Driver) (v : ℕ) → Reached d → v < 2 ^ 16 → steps d v ≡ step_of d v
    as_said d v w h = said d v (in-types d v w h)

    -- on the model
    talks : (n : ℕ) (s : Step) (h : Chip) → Reached s.driver → talk steps part wp n s h ≡ talk step_of part wp n s h
    unfolding talk
    talks zero s h w = refl
    talks (suc n) s h w = by s.next (λ v k. talks n (step_of s.driver v) k (reached-next s.driver v w))
      where
        by : (y : Next) → ((v : ℕ) (k : Chip) → talk steps part wp n (step_of s.driver v) k ≡ talk step_of part wp n (step_of s.driver v) k)
            → ◌≡◌ {A = Told}
            (elim y [ None ↦ told [] h s | Some (e, a) ↦ led (cycle e wp a) (talk steps part wp n (steps s.driver (shows part h (cycle e wp a))) (after part h (cycle e wp a))) ])
            (elim y [ None ↦ told [] h s | Some (e, a) ↦ led (cycle e wp a) (talk step_of part wp n (step_of s.driver (shows part h (cycle e wp a))) (after part h (cycle e wp a))) ])
        by None ih = refl
        by (Some (e, a)) ih =
            let c = cycle e wp a in
            let v = shows part h c in
            ap (led c)
            (ap (λ (t : Step). talk steps part wp n t (after part h c))
            (as_said s.driver v w (shown-word part listed h.cells h.device c))
            ∙ ih v (after part h c))

    pub talks-alike : (n read : ℕ) (h : Chip) → read < 2 ^ 16 → talk steps part wp n (steps b read) h ≡ talk step_of part wp n (step_of b read) h
    talks-alike n read h small = ap (λ (s : Step). talk steps part wp n s h) (as_said b read reached-first small) ∙ talks n (step_of b read) h (reached-next b read reached-first)

    -- where words are replied
    hears : (n : ℕ) (f : ℕ → ℕ) (s : Step) → ((i : ℕ) → f i < 2 ^ 16) → Reached s.driver → heard steps wp f n s ≡ heard step_of wp f n s
    unfolding heard
    hears zero f s words w = refl
    hears (suc n) f s words w = by s.next (hears n (λ i. f (suc i)) (step_of s.driver (f 0)) (λ i. words (suc i)) (reached-next s.driver (f 0) w))
      where
        by : (y : Next) → heard steps wp (λ i. f (suc i)) n (step_of s.driver (f 0)) ≡ heard step_of wp (λ i. f (suc i)) n (step_of s.driver (f 0))
            → ◌≡◌ {A = Heard}
            (elim y [
              | None ↦ heard_of [] s
              | Some (e, a) ↦ heard_of (cycle e wp a ∷ (heard steps wp (λ i. f (suc i)) n (steps s.driver (f 0))).cycles) (heard steps wp (λ i. f (suc i)) n (steps s.driver (f 0))).last
            ])
            (elim y [
              | None ↦ heard_of [] s
              | Some (e, a) ↦ heard_of (cycle e wp a ∷ (heard step_of wp (λ i. f (suc i)) n (step_of s.driver (f 0))).cycles) (heard step_of wp (λ i. f (suc i)) n (step_of s.driver (f 0))).last
            ])
        by None ih = refl
        by (Some (e, a)) ih =
            ap (λ (t : Heard). heard_of (cycle e wp a ∷ t.cycles) t.last)
            (ap (λ (t : Step). heard steps wp (λ i. f (suc i)) n t) (as_said s.driver (f 0) w (words 0)) ∙ ih)

    pub hears-alike : (n read : ℕ) (f : ℕ → ℕ) → read < 2 ^ 16 → ((i : ℕ) → f i < 2 ^ 16) → heard steps wp f n (steps b read) ≡ heard step_of wp f n (step_of b read)
    hears-alike n read f small words =
        ap (λ (s : Step). heard steps wp f n s) (as_said b read reached-first small) ∙ hears n f (step_of b read) words (reached-next b read reached-first)
