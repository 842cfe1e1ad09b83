-- The operations of a job: whole sectors, ascending.
use Rattle.std.specs.Prelude.{List, [], ◌∷◌, ◌++◌, ℕ, zero, suc, ◌*◌, ltb, take, drop}
use Rattle.parts.specs.Pick.{pick}
use Rattle.least.specs.Operations.{Op, Program, Erase, blanks, operate_all}
use Rattle.least.specs.LeastTime.{differs, rising}

-- from address a on, a program for each image value that differs from the cell's, ascending
abbrev pub programs : ℕ → ℕ → List ℕ → List ℕ → List Op
programs w a [] image = []
programs w a (o ∷ cells) [] = []
programs w a (o ∷ cells) (x ∷ image) = pick (differs w o x) (Program a x ∷ []) [] ++ programs w (suc a) cells image

module _ (w S : ℕ) where
  -- sector s: where a bit must rise, erase, then program every image value that differs from blank; else program those that differ
  unfoldable pub sector_ops : ℕ → List ℕ → List ℕ → List Op
  sector_ops s cells image =
      pick (ltb 0 (rising w cells image)) (Erase s ∷ programs w (s * S) (blanks w image) image) (programs w (s * S) cells image)

  -- n sectors from sector s on, where the cells given begin
  abbrev pub sectors_ops : ℕ → ℕ → List ℕ → List ℕ → List Op
  sectors_ops s zero cells image = []
  sectors_ops s (suc n) cells image = sector_ops s (take S cells) (take S image) ++ sectors_ops (suc s) n (drop S cells) (drop S image)

  -- the job on the n sectors from sector f on, decided from the cells before it
  abbrev pub job_ops : ℕ → ℕ → List ℕ → List ℕ → List Op
  job_ops f n cells image = sectors_ops f n (drop (f * S) cells) image

  -- the cells after it
  abbrev pub after_job : ℕ → ℕ → List ℕ → List ℕ → List ℕ
  after_job f n cells image = operate_all w S (job_ops f n cells image) cells
