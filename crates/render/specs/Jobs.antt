-- 02, i: many trees at once. "The result equals the single calls done in order on the room that is left."
use Rattle.std.specs.Prelude.{ℕ, ◌+◌, ◌≡◌, List, [], ◌∷◌, ◌++◌, Bool, true, false, ltb, length, take, drop, Ok, Err}
use Rattle.mode.specs.declared.Mode.{Mode}
use Rattle.render.specs.Render.{Outcome, RendersIn, number_of, place_of}
use Rattle.render.specs.declared.jobs.Job.{Job}

-- "tree start and tree length in a shared tree buffer": a job is outside if the buffer ends before its tree does
unfoldable pub outside : List ℕ → Job → Bool
outside trees j = ltb (length trees) (j.tree_start + j.tree_len)

abbrev pub tree_of : List ℕ → Job → List ℕ
tree_of trees j = take j.tree_len (drop j.tree_start trees)

-- "get the refusal, place and output start written into each job"; the rest of it stays
abbrev pub answered : Job → ℕ → ℕ → ℕ → Job
answered j number place at = record { tree_start = j.tree_start; tree_len = j.tree_len; refusal = number; place = place; out_start = at }

-- "a refused job adds nothing"
abbrev pub written : Outcome → ℕ
written (Ok n) = n
written (Err e) = 0

-- the single call for a tree t, with the room from `at` on: what the job, the output and the start of the next text are after it
pub record Called (m : Mode) (t x : List ℕ) (j : Job) (out : List ℕ) (at : ℕ) (j' : Job) (out' : List ℕ) (next : ℕ) : Type 0 where
  pub outcome : Outcome
  pub room : List ℕ
  pub renders : RendersIn m t x (drop at out) outcome room
  pub job : j' ≡ answered j (number_of outcome) (place_of outcome) at
  pub output : out' ≡ take at out ++ room
  pub behind : next ≡ at + written outcome

-- one job: "a job outside the tree buffer gets 1 with place 0, before all else"
pub record Single (m : Mode) (trees x : List ℕ) (j : Job) (out : List ℕ) (at : ℕ) (j' : Job) (out' : List ℕ) (next : ℕ) : Type 0 where
  pub beyond : outside trees j ≡ true → (j' ≡ answered j 1 0 at) × ((out' ≡ out) × (next ≡ at))
  pub within : outside trees j ≡ false → Called m (tree_of trees j) x j out at j' out' next

-- jobs in order, from where the next text begins: "the jobs after any refused one go on"
pub data InOrder (m : Mode) (trees x : List ℕ) : List Job → List ℕ → ℕ → List Job → List ℕ → ℕ → Type 0 where
  none : {out : List ℕ} {at : ℕ} → InOrder m trees x [] out at [] out at
  one : {j j' : Job} {js js' : List Job} {out mid out' : List ℕ} {at next end : ℕ}
      → Single m trees x j out at j' mid next → InOrder m trees x js mid next js' out' end → InOrder m trees x (j ∷ js) out at (j' ∷ js') out' end

-- the call: "Texts stand one behind the other in one output", from its first byte on; it "answers with the bytes written in all"
abbrev pub RendersJobs : Mode → List ℕ → List ℕ → List Job → List ℕ → List Job → List ℕ → ℕ → Type 0
RendersJobs m trees x js out js' out' answer = InOrder m trees x js out 0 js' out' answer
