-- An eight-bit part in sectors of four cells, a program of 14 and an erase of 18000: what the definitions compute.
use mathlib.Core.Path.{◌≡◌, refl}
use mathlib.Core.List.{List, [], ◌∷◌}
use Prim.Native.Nat.{ℕ}
use Rattle.least.specs.Operations.{Program, Erase, erased}
use Rattle.least.specs.LeastTime.{sector_time, least_time}
use Rattle.least.specs.Job.{sector_ops, job_ops, after_job}

-- the third sector's last word is lent with more than its value, 9
abbrev cells : List ℕ
cells = 1 ∷ 2 ∷ 3 ∷ 4 ∷ 255 ∷ 255 ∷ 15 ∷ 7 ∷ 0 ∷ 0 ∷ 0 ∷ 0x109 ∷ 9 ∷ 9 ∷ 9 ∷ 0x109 ∷ []

-- for the second sector, the third and the fourth
abbrev image : List ℕ
image = 255 ∷ 254 ∷ 15 ∷ 3 ∷ 1 ∷ 255 ∷ 2 ∷ 9 ∷ 9 ∷ 9 ∷ 8 ∷ 9 ∷ []

-- the second sector takes two programs, the third an erase and three, the fourth one
operations : job_ops 8 4 1 3 cells image
    ≡ Program 5 254 ∷ Program 7 3 ∷ Erase 2 ∷ Program 8 1 ∷ Program 10 2 ∷ Program 11 9 ∷ Program 14 8 ∷ []
unfolding sector_ops
operations = refl

time : least_time 8 4 14 18000 1 3 cells image ≡ 18084
unfolding sector_time
time = refl

-- what holds its value already is not touched
left : after_job 8 4 1 3 cells image
    ≡ 1 ∷ 2 ∷ 3 ∷ 4 ∷ 255 ∷ 254 ∷ 15 ∷ 3 ∷ 1 ∷ 255 ∷ 2 ∷ 9 ∷ 9 ∷ 9 ∷ 8 ∷ 0x109 ∷ []
unfolding sector_ops erased
left = refl
