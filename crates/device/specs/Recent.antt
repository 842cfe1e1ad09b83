-- Document 02, Wish 1: what the laws say of a completion that is 0 µs old, and of the reads then and later.
use Rattle.std.specs.Prelude.{ℕ, ◌-◌, ◌/◌, ◌%◌, ◌^◌, ◌≡◌, Bool, false, eqb, ltb}
use Rattle.parts.specs.Pick.{pick}
use Rattle.device.specs.declared.state.Core.{Core}
use Rattle.device.specs.declared.state.Device.{Device}
use Rattle.device.specs.Device.{with_recent, busy, with_core}

-- ---- bits
-- a bit of a word
abbrev pub bit_of : ℕ → ℕ → ℕ
bit_of i x = x / 2 ^ i % 2

-- one of the part's bits, and not 7
abbrev pub but_seven : ℕ → ℕ → Bool
but_seven width i = pick (eqb i 7) false (ltb i width)

-- two words differ in all the part's bits but 7, and in no other
abbrev pub DifferButSeven : ℕ → ℕ → ℕ → Type 0
DifferButSeven width x y = (i : ℕ) → bit_of i x ≡ pick (but_seven width i) (1 - bit_of i y) (bit_of i y)

-- ---- time
-- once e µs have passed a completion is 0 µs old: that of what ran, with e just what was left; or one that was so before, with no time passed
abbrev pub recent_once : Core → ℕ → Bool
recent_once k e = pick (busy k) (eqb e k.running.left) (pick (ltb 0 e) false k.recent)

-- the device some time later, where nothing runs
abbrev pub later : Device → Device
later d = with_core d (with_recent d.core false)
