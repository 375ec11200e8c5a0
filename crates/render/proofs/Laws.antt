-- Laws of the whole-tree calls that rest on what each way through them comes to: measure and render agree, and a place is small.
use Rattle.std.specs.Prelude.{ℕ, ◌^◌, ◌≤◌, ◌<◌, List, get_or, Ok, Err}
use Rattle.std.proofs.Math.Path.{◌≡◌, refl}
use Rattle.std.proofs.Math.ListN.{length}
use Rattle.mode.specs.declared.Mode.{Mode}
use Rattle.render.specs.Render.{Outcome, MeasuresIn, RendersIn, place_of}
use Rattle.render.specs.Laws.{kept, written, renders_unique, rendered_small}

-- the counting pass and the writing pass agree: where there is room for what measure answers, render answers the same
pub agree : (mode : Mode) (t x out out' : List ℕ) (o p : Outcome) → ((n : ℕ) → o ≡ Ok n → n ≤ length out) → MeasuresIn mode t x o → RendersIn mode t x out p out' → p ≡ o
agree mode t x out out' (Ok n) p room m r =
    (renders_unique mode t x out p (Ok n) out' _ r (written out m (room n refl) refl)).0
agree mode t x out out' (Err k) p room m r =
    (renders_unique mode t x out p (Err k) out' out r (kept out (λ n e. cc) m)).0

pub renders_small : {mode : Mode} {t x out out' : List ℕ} {o : Outcome} → ((k : ℕ) → get_or t k 0 < 256) → RendersIn mode t x out o out' → place_of o < 2 ^ 32
renders_small {mode} {t} {x} {out} b m = rw m.answers (rendered_small m.checks b (length out))
