-- `cutter::line` meets its contract: a number that no kind has is above all of theirs, so it has no line.
use Rattle.std.specs.Prelude.{ℕ, ◌≡◌, ◌<◌, [], refl}
use native.Mathlib.Omega.{arith}
use borrow.Author.Tests.{ne_eqb}
use Rattle.reader.specs.Reader.{stop}
use Rattle.cutter.specs.Line.{name_of, line_of}
use Rattle.cutter.proofs.line.Goals as goal

no_line : (k start len : ℕ) → stop < k → line_of k start len ≡ []
unfolding line_of name_of
no_line k start len h =
    rw (
      ne_eqb k 1 (λ e. absurd (omega arith)),
      ne_eqb k 2 (λ e. absurd (omega arith)),
      ne_eqb k 3 (λ e. absurd (omega arith)),
      ne_eqb k 4 (λ e. absurd (omega arith)),
      ne_eqb k 5 (λ e. absurd (omega arith)),
      ne_eqb k 6 (λ e. absurd (omega arith)),
      ne_eqb k 7 (λ e. absurd (omega arith)),
      ne_eqb k 8 (λ e. absurd (omega arith)),
    )

pub returns-in-Err : goal.returns-in-Err
returns-in-Err c = rw (no_line c.args.kind c.args.start c.args.len c.in-Err.ensures) (record { stored = refl; behind = refl })
