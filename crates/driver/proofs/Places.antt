-- Six places, unused ones zero, hold a list of writes.
use Prim.Native.Nat.{ℕ, zero, suc, ◌<◌}
use mathlib.Core.Path.{◌≡◌, refl, ap, ◌∙◌}
use mathlib.Core.List.{List, [], ◌∷◌, ◌++◌}
use lib.ListN.{get_or, replicate}
use lib.Seq.{get_or-take}
use Rattle.commands.specs.declared.write.Write.{Write}
use Rattle.driver.specs.Writes.{no_write, six_places, Writes, writes}

zeros-at : (n k : ℕ) → get_or (replicate n no_write) k no_write ≡ no_write
zeros-at zero k = refl
zeros-at (suc n) zero = refl
zeros-at (suc n) (suc k) = zeros-at n k

filled_at : (ws : List Write) (n k : ℕ) → get_or (ws ++ replicate n no_write) k no_write ≡ get_or ws k no_write
filled_at [] n k = zeros-at n k
filled_at (w ∷ ws) n zero = refl
filled_at (w ∷ ws) n (suc k) = filled_at ws n k

pub six-at : (ws : List Write) (k : ℕ) → k < 6 → get_or (six_places ws) k no_write ≡ get_or ws k no_write
six-at ws k h = get_or-take 6 (ws ++ replicate 6 no_write) k no_write h ∙ filled_at ws 6 k

-- of writes that were returned together
pub place_at : (w : Writes) (n count : ℕ) (ws : List Write) (k : ℕ) → w ≡ writes n count ws → k < 6 → get_or w.writes k no_write ≡ get_or ws k no_write
place_at w n count ws k e h = ap (λ (w : Writes). get_or w.writes k no_write) e ∙ six-at ws k h
