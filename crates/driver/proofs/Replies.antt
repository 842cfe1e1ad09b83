-- Whatever is replied: which of the three ends a driver's talk comes to, and what that says of the replies.
use Rattle.std.specs.Prelude.{Some, None}
use Prim.Native.Nat.{ℕ, zero, suc, ◌+◌, ◌-◌, ◌≤◌, ◌<◌}
use mathlib.Core.Path.{◌≡◌, refl, sym, ap, ◌∙◌}
use mathlib.Core.Bool.{Bool, true, false}
use native.Mathlib.Omega.{arith}
use borrow.Author.Tests.{ltb-true, ltb-false, lt-ltb, le-ltb, eqb-true, eqb-false}
use lib.Dec.{eqb, ltb}
use Rattle.parts.specs.Pick.{pick}
use Rattle.parts.specs.Width.{value_of}
use Rattle.parts.specs.Table.{row_of}
use Rattle.parts.specs.declared.table.Row.{Row}
use Rattle.device.specs.declared.cycle.Action.{Action}
use Rattle.driver.specs.declared.machine.Phase.TheVariants.{Writing, Polling, Confirming, Done, GaveUp, Differs}
use Rattle.driver.specs.declared.machine.Driver.{Driver}
use Rattle.driver.specs.declared.machine.Step.{Step}
use Rattle.driver.specs.Refusals.{start_refusal}
use Rattle.driver.specs.Writes.{write_count}
use Rattle.driver.specs.Machine.{most_polls, bit_seven, bit_wanted, value_wanted, moved, step, ended, polls, confirms, step_of}
use Rattle.driver.specs.Talk.{heard}
use Rattle.driver.specs.Endings.{PollMatches, ReadConfirms, MatchedAfter, NeverMatched, Meaning}
use Rattle.driver.proofs.Ready.{write-count-some}
use Rattle.driver.proofs.Steps.{most}
use Rattle.driver.proofs.Talks.{some-polls, driver_at, first-poll, write_step, poll-again, confirm-then, give-up, compare}

-- ---- the three ends
pub data ComesTo (b : Driver) (f : ℕ → ℕ) : Step → Type 0 where
  done : (q : ℕ) → MatchedAfter (row_of b.part) b.command b.«data» b.p f q → ReadConfirms (row_of b.part) b.command b.«data» f q
      → ComesTo b f (ended (moved b Polling q) Done)
  differs : (q : ℕ) → MatchedAfter (row_of b.part) b.command b.«data» b.p f q → (ReadConfirms (row_of b.part) b.command b.«data» f q → ⊥)
      → ComesTo b f (ended (moved b Polling q) Differs)
  gave-up : NeverMatched (row_of b.part) b.command b.«data» b.p f → ComesTo b f (ended (moved b Polling (most b)) GaveUp)

-- the step that a talk comes to, turn by turn
module _ (wp : Bool) where
  sends : (n k e q : ℕ) (d : Driver) (a : Action) (f : ℕ → ℕ)
      → (heard step_of wp f (suc n) (step k d (Some (e, a)) q)).last ≡ (heard step_of wp (λ i. f (suc i)) n (step_of d (f 0))).last
  unfolding heard
  sends n k e q d a f = refl

  rests : (n k q : ℕ) (d : Driver) (f : ℕ → ℕ) → (heard step_of wp f n (step k d None q)).last ≡ step k d None q
  unfolding heard
  rests zero k q d f = refl
  rests (suc n) k q d f = refl

-- ---- a driver whose start is accepted; g is what is replied from some cycle on
module _ (b : Driver) (accepted : start_refusal b.part b.command b.address b.«data» b.p ≡ 0) (wp : Bool) where
  abbrev r : Row
  r = row_of b.part

  abbrev W : ℕ
  W = write_count b.command

  abbrev Match : (ℕ → ℕ) → ℕ → Type 0
  Match f i = PollMatches b.command b.«data» f i

  -- the confirming read after q polls
  confirming : (q n : ℕ) (f g : ℕ → ℕ) → g 0 ≡ f (W + q) → 0 < q → q ≤ most b → Match f (q - 1) → ((i : ℕ) → i < q - 1 → Match f i → ⊥)
      → ComesTo b f (heard step_of wp g (suc n) (confirms (moved b Polling q))).last
  unfolding most_polls
  confirming q n f g at some few last first =
      rw (sends wp n 0 _ q (moved b Confirming q) _ g, compare b accepted wp q (g 0) some few)
      (by (eqb (value_of r.width (g 0)) (value_wanted r b.command b.«data»)) refl)
    where
      w : MatchedAfter r b.command b.«data» b.p f q
      w = record { some = some; few = few; last = last; first = first }

      by : (z : Bool) → eqb (value_of r.width (g 0)) (value_wanted r b.command b.«data») ≡ z
          → ComesTo b f (heard step_of wp (λ i. g (suc i)) n (ended (moved b Polling q) (pick z Done Differs))).last
      by true z = rw (rests wp n _ q _ (λ i. g (suc i))) (done q w (ap (value_of r.width) (sym at) ∙ eqb-true _ _ z))
      by false z = rw (rests wp n _ q _ (λ i. g (suc i))) (differs q w (λ e. eqb-false _ _ z (ap (value_of r.width) at ∙ e)))

  -- the reply to a poll after q without a match: it matches,
  matching : (q n : ℕ) (f g : ℕ → ℕ) → ((i : ℕ) → g i ≡ f (W + q + i)) → q < most b → 0 < n → ((i : ℕ) → i < q → Match f i → ⊥)
      → eqb (bit_seven (g 0)) (bit_wanted b.command b.«data») ≡ true
      → ComesTo b f (heard step_of wp (λ i. g (suc i)) n (step_of (moved b Polling (q + 1)) (g 0))).last
  matching q zero f g at more fuel none hit = absurd (omega arith)
  matching q (suc n) f g at more fuel none hit =
      let e : q + 1 - 1 ≡ q = omega arith in
      let u : W + q + 0 ≡ W + q = omega arith in
      let v : W + q + 1 ≡ W + (q + 1) = omega arith in
      rw (confirm-then b accepted wp (q + 1) (g 0) (omega arith) (omega arith) hit)
      (confirming (q + 1) n f (λ i. g (suc i)) (at 1 ∙ ap f v) (omega arith) (omega arith)
      (rw e (ap bit_seven (sym (at 0 ∙ ap f u)) ∙ eqb-true _ _ hit)) (rw e none))

  -- or it does not
  missing : (q : ℕ) (f g : ℕ → ℕ) → ((i : ℕ) → g i ≡ f (W + q + i)) → ((i : ℕ) → i < q → Match f i → ⊥)
      → eqb (bit_seven (g 0)) (bit_wanted b.command b.«data») ≡ false → (i : ℕ) → i < q + 1 → Match f i → ⊥
  missing q f g at none miss i h m = by (ltb i q) refl
    where
      by : (z : Bool) → ltb i q ≡ z → ⊥
      by true z = none i (ltb-true i q z) m
      by false z =
          let k = ltb-false i q z in
          let e : W + i ≡ W + q + 0 = omega arith in
          eqb-false _ _ miss (ap bit_seven (at 0 ∙ ap f (sym e)) ∙ m)

  -- so one poll more
  answered : (q n : ℕ) (f g : ℕ → ℕ) → ((i : ℕ) → g i ≡ f (W + q + i)) → q < most b → 0 < n → ((i : ℕ) → i < q → Match f i → ⊥)
      → (eqb (bit_seven (g 0)) (bit_wanted b.command b.«data») ≡ false → ComesTo b f (heard step_of wp (λ i. g (suc i)) n (step_of (moved b Polling (q + 1)) (g 0))).last)
      → ComesTo b f (heard step_of wp g (suc n) (polls (moved b Polling q))).last
  answered q n f g at more fuel none on =
      rw (sends wp n 0 _ (q + 1) (moved b Polling (q + 1)) _ g) (by (eqb (bit_seven (g 0)) (bit_wanted b.command b.«data»)) refl)
    where
      by : (z : Bool) → eqb (bit_seven (g 0)) (bit_wanted b.command b.«data») ≡ z
          → ComesTo b f (heard step_of wp (λ i. g (suc i)) n (step_of (moved b Polling (q + 1)) (g 0))).last
      by true z = matching q n f g at more fuel none z
      by false z = on z

  -- the polls: q have been answered without a match, one is named, and j more come at most
  polling : (j q n : ℕ) (f g : ℕ → ℕ) → ((i : ℕ) → g i ≡ f (W + q + i)) → q + suc j ≡ most b → suc j < n → ((i : ℕ) → i < q → Match f i → ⊥)
      → ComesTo b f (heard step_of wp g n (polls (moved b Polling q))).last
  unfolding most_polls
  polling j q zero f g at all fuel none = absurd (omega arith)
  polling zero q (suc n) f g at all fuel none =
      let e : q + 1 ≡ most b = omega arith in
      answered q n f g at (omega arith) (omega arith) none
      (λ z. rw (give-up b accepted wp (q + 1) (g 0) (omega arith) (omega arith) z (omega arith), rests wp n 11 (q + 1) (moved b GaveUp (q + 1)) (λ i. g (suc i)), e)
      (gave-up (rw e at (missing q f g at none z))))
  polling (suc j) q (suc n) f g at all fuel none =
      answered q n f g at (omega arith) (omega arith) none
      (λ z. rw (poll-again b accepted wp (q + 1) (g 0) (omega arith) (omega arith) z (omega arith))
      (polling j (q + 1) n f (λ i. g (suc i)) (λ i. let e : W + q + suc i ≡ W + (q + 1) + i = omega arith in at (suc i) ∙ ap f e) (omega arith) (omega arith) (missing q f g at none z)))

  -- the writes, whatever is replied to them: k have been answered
  writing : (j k n read : ℕ) (f g : ℕ → ℕ) → ((i : ℕ) → g i ≡ f (k + i)) → k + j ≡ W → j + most b + 1 ≤ n
      → ComesTo b f (heard step_of wp g n (step_of (driver_at b accepted wp k) read)).last
  unfolding driver_at
  writing zero k n read f g at e enough =
      let w : W ≤ k = omega arith in
      let z : k ≡ W + 0 = omega arith in
      rw (le-ltb k W w, first-poll b accepted wp read)
      (polling (most b - 1) 0 n f g (rw z at at) (omega (arith, some-polls b accepted wp)) (omega (arith, some-polls b accepted wp)) (λ i h m. omega arith))
  writing (suc j) k zero read f g at e enough = absurd (omega arith)
  writing (suc j) k (suc n) read f g at e enough =
      let l : k < W = omega arith in
      rw (lt-ltb k W l, write_step b accepted wp k read l, sends wp n 0 0 0 (driver_at b accepted wp (suc k)) _ g)
      (writing j (suc k) n (g 0) f (λ i. g (suc i)) (λ i. let u : k + suc i ≡ suc k + i = omega arith in at (suc i) ∙ ap f u) (omega arith) (omega arith))

  pub ends : (f : ℕ → ℕ) (read n : ℕ) → W + most b + 1 ≤ n → ComesTo b f (heard step_of wp f n (step_of (moved b Writing 0) read)).last
  unfolding driver_at
  ends f read n enough =
      let z : 0 + W ≡ W = omega arith in
      rw (lt-ltb 0 W (omega (arith, write-count-some b.command))) at (writing W 0 n read f f (λ i. let e : 0 + i ≡ i = omega arith in ap f (sym e)) z enough)

-- ---- what an end says
-- one number of polls matches
one-match : (r : Row) (command x p : ℕ) (f : ℕ → ℕ) (q k : ℕ) → MatchedAfter r command x p f q → MatchedAfter r command x p f k → q ≡ k
one-match r command x p f q k v w = by (ltb q k) (ltb k q) refl refl
  where
    by : (s t : Bool) → ltb q k ≡ s → ltb k q ≡ t → q ≡ k
    by true t e h = absurd (w.first (q - 1) (omega (arith, ltb-true q k e, v.some)) v.last)
    by false true e h = absurd (v.first (k - 1) (omega (arith, ltb-true k q h, w.some)) w.last)
    by false false e h = omega (arith, ltb-false q k e, ltb-false k q h)

-- data that asks for the same
same-match : (r : Row) (command x y p : ℕ) (f : ℕ → ℕ) (q : ℕ) → bit_wanted command x ≡ bit_wanted command y → MatchedAfter r command x p f q → MatchedAfter r command y p f q
same-match r command x y p f q e w = record { some = w.some; few = w.few; last = w.last ∙ e; first = λ i h m. w.first i h (m ∙ sym e) }

module _ (b : Driver) (f : ℕ → ℕ) (x : ℕ) (bit : bit_wanted b.command b.«data» ≡ bit_wanted b.command x)
    (value : value_wanted (row_of b.part) b.command b.«data» ≡ value_wanted (row_of b.part) b.command x) where
  pub means : (s : Step) → ComesTo b f s → Meaning (row_of b.part) b.command x b.p f s
  unfolding most_polls
  means s (done q v c) =
      let w = same-match _ _ _ _ _ f q bit v in
      record {
        succeeded = λ e. (w, c ∙ value);
        succeeds = λ k u d. (refl, one-match _ _ _ _ f q k w u);
        differed = λ e. absurd (omega arith);
        differs = λ k u n. absurd (n (rw (one-match _ _ _ _ f q k w u) at (c ∙ value)));
        gave-up = λ e. absurd (omega arith);
        gives_up = λ n. absurd (n (q - 1) (omega (arith, w.some, w.few)) w.last);
      }
  means s (differs q v c) =
      let w = same-match _ _ _ _ _ f q bit v in
      record {
        succeeded = λ e. absurd (omega arith);
        succeeds = λ k u d. absurd (c (rw (sym (one-match _ _ _ _ f q k w u)) at d ∙ sym value));
        differed = λ e. (w, λ d. c (d ∙ sym value));
        differs = λ k u n. (refl, one-match _ _ _ _ f q k w u);
        gave-up = λ e. absurd (omega arith);
        gives_up = λ n. absurd (n (q - 1) (omega (arith, w.some, w.few)) w.last);
      }
  means s (gave-up never) =
      record {
        succeeded = λ e. absurd (omega arith);
        succeeds = λ k u d. absurd (never (k - 1) (omega (arith, u.some, u.few)) (u.last ∙ sym bit));
        differed = λ e. absurd (omega arith);
        differs = λ k u d. absurd (never (k - 1) (omega (arith, u.some, u.few)) (u.last ∙ sym bit));
        gave-up = λ e. (λ i h m. never i h (m ∙ sym bit), refl);
        gives_up = λ n. (refl, refl);
      }
