-- `cutter::put_line` meets its contract: each part is stored behind the one before, and together they are the line.
use Rattle.std.specs.Prelude.{ℕ, ◌≡◌, refl, ◌++◌, [], length}
use native.Mathlib.Omega.{arith}
use mathlib.Core.Path.{ap}
use Rattle.laws.specs.Text.{ascii}
use Rattle.reader.specs.Kinds.{number_of}
use Rattle.reader.specs.declared.Kind.{Kind}
use Rattle.reader.specs.declared.Kind.TheVariants.{End, Word, Number, Quoted, Blob, Variable, Operator, Mark, Stop}
use Rattle.cutter.specs.Line.{spaced, name_of, line_of}
use Rattle.cutter.specs.Laws.{then, length_name, length_spaced, line_stop}
use Rattle.cutter.proofs.put_line.Goals as goal

line_end : (start len : ℕ) → line_of (number_of End) start len ≡ []
unfolding line_of name_of
line_end start len = refl

-- the line of a lexeme
named : (kind : Kind) (start len : ℕ) → (kind ≡ End → ⊥) → (kind ≡ Stop → ⊥)
    → line_of (number_of kind) start len ≡ name_of (number_of kind) ++ (spaced start ++ (spaced len ++ ascii "\n"))
unfolding line_of name_of
named End start len e s = absurd (e refl)
named Word start len e s = refl
named Number start len e s = refl
named Quoted start len e s = refl
named Blob start len e s = refl
named Variable start len e s = refl
named Operator start len e s = refl
named Mark start len e s = refl
named Stop start len e s = absurd (s refl)

pub returns-in-End : goal.returns-in-End
returns-in-End c = rw (c.in-End.is, line_end c.args.start c.args.len) (record { stored = refl; behind = refl })

pub returns-in-Stop : goal.returns-in-Stop
returns-in-Stop c = rw (c.in-Stop.is, line_stop c.args.start c.args.len) (then c.put-stop.ensures (then c.put_number-place.ensures c.put.ensures))

pub returns-in_default : goal.returns-in_default
returns-in_default c =
    let name = c.name.ensures in
    rw (named c.args.kind c.args.start c.args.len c.in_default.not-End c.in_default.not-Stop, ← name)
    (then c.put-named.ensures (then c.put_number-first.ensures (then c.put_number-second.ensures c.put-in_default.ensures)))

pub put-requires : goal.put-requires
put-requires c = omega (arith, c.put_number-place.ensures.behind, c.put-stop.ensures.behind, length_spaced c.args.start c.ranges.start.fits)

pub put_number-first-requires : goal.put_number-first-requires
put_number-first-requires c = omega (arith, c.put-named.ensures.behind, ap length c.name.ensures, length_name (number_of c.args.kind))

pub put_number-second-requires : goal.put_number-second-requires
put_number-second-requires c =
    omega (
      arith,
      c.put_number-first.ensures.behind,
      c.put-named.ensures.behind,
      ap length c.name.ensures,
      length_name (number_of c.args.kind),
      length_spaced c.args.start c.ranges.start.fits,
    )

pub put-requires-in_default : goal.put-requires-in_default
put-requires-in_default c =
    omega (
      arith,
      c.put_number-second.ensures.behind,
      c.put_number-first.ensures.behind,
      c.put-named.ensures.behind,
      ap length c.name.ensures,
      length_name (number_of c.args.kind),
      length_spaced c.args.start c.ranges.start.fits,
      length_spaced c.args.len c.ranges.len.fits,
    )
