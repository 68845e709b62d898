-- When joining is refused by 10, when by 5 and at which position, and when not: in words, apart from the verdict. Relations only.
use Rattle.std.specs.Prelude.{ℕ, ◌+◌, ◌≤◌, ◌<◌, ◌≡◌, ◌⊎◌, Ok, Err}
use Rattle.list.specs.Fits.{Fits, FailsAt}
use Rattle.list.specs.Lists.{ops_of, Lawful, Unlawful}
use Rattle.list.specs.declared.Plan.{Plan}
use Rattle.list.specs.Check.{Verdict}
use Rattle.list.specs.declared.CheckError.TheVariants.{Malformed, Misfit}

-- "10 for either list or a joint count above 32", and when that does not hold
abbrev pub Unjoinable : Plan → Plan → Type 0
Unjoinable p q = Unlawful p ⊎ (Unlawful q ⊎ (32 < p.count + q.count))

abbrev pub Joinable : Plan → Plan → Type 0
Joinable p q = Lawful p × Lawful q × (p.count + q.count ≤ 32)

-- "then 5, at the position in the joined order": `Breaks p q k`
pub data Breaks (p q : Plan) : ℕ → Type 0 where
  -- "where the first list fails"
  first_fails : {k : ℕ} → FailsAt p.start (ops_of p) k → Breaks p q k
  -- "else at the first list's count where the first's end width is not the second's start width"
  widths_differ : {w : ℕ} → Fits p.start (ops_of p) w → ¬ (w ≡ q.start) → Breaks p q p.count
  -- "else where the second list fails"
  second_fails : {i : ℕ} → Fits p.start (ops_of p) q.start → FailsAt q.start (ops_of q) i → Breaks p q (p.count + i)

-- what each verdict says of the two lists
abbrev pub Given : Plan → Plan → Verdict → Type 0
Given p q (Err Malformed) = Unjoinable p q
Given p q (Err (Misfit k)) = Joinable p q × Breaks p q k
Given p q (Ok w) = Joinable p q × Fits p.start (ops_of p) q.start × Fits q.start (ops_of q) w
