-- What stands in the engine's buffer: after appends from a fresh record, and after render. The buffer begins with the text of the tokens
-- (append/Lists, wire/Lists, render/Render), and of texts S1 to S12 (stream/Cases) and demand 3 (reading/Demand3) are proved.
use Rattle.std.specs.Prelude.{ℕ, ◌+◌, ◌^◌, ◌≤◌, ◌<◌, ◌≡◌, true, length, take}
use Rattle.std.proofs.Common.{arith, zero-add}
use mathlib.Core.List.{List, [], Memᴰ}
use Rattle.stream.specs.Stream.{text}
use Rattle.stream.specs.Cases.{Case, cases}
use Rattle.append.specs.declared.Stream.{Stream}
use Rattle.position.specs.Position.{lines, column}
use Rattle.append.specs.Lists.{Lent, tokens_of, AppendsAll, Held}
use Rattle.append.proofs.Lists.{all_succeed}
use Rattle.wire.specs.Wire.{unpacked}
use Rattle.wire.specs.Lists.{CrossesAll, all_append}
use Rattle.reading.specs.Reading.{Lexed, Cuts}
use Rattle.reading.specs.Readable.{Readable}
use Rattle.demands.specs.Lends.{lent}
use Rattle.demands.proofs.Lends.{case_lent}
use Rattle.demands.specs.Demands.{Fresh, fresh_bytes, fresh_bytes_lem, case_text, appended_case, appended_column, appended_line, appended_reads_back, appended_text}

-- and the tokens of each case are appended, wherever there is room for its bytes
pub cases_appended : {rec : Stream} {c : Case} → Fresh rec → Memᴰ c cases → (out : List ℕ) → length c.1 ≤ length out
    → (rec' : Stream) × (out' : List ℕ) × AppendsAll rec out (lent c.0) rec' out' × (take rec'.count out' ≡ c.1)
cases_appended {rec} {c} f m out room =
    let l = case_lent m in
    let n : rec.count + length (text rec.spaced (tokens_of (lent c.0))) ≤ length out = rw (f.spaced, f.count, l.0, case_text m, zero-add) room in
    let h : Held rec = record { line = omega (arith, f.line); column = omega (arith, f.column) } in
    let a = all_succeed rec out h l.1 n in
    (a.0, a.1, a.2, appended_case f a.2 m l.0)

-- ---- the same of kinyandoma_append, from the bytes of a fresh record, where all answers are below 2^32
module _ {out : List ℕ} {ls : List Lent} {r' out' : List ℕ} (all : CrossesAll fresh_bytes out ls r' out') (fits : length out < 2 ^ 64) where
  pub crossed_text : take (unpacked r').count out' ≡ text true (tokens_of ls)
  crossed_text = appended_text fresh_bytes_lem (all_append all fits)

  pub crossed_line : (unpacked r').line ≡ lines (take (unpacked r').count out')
  crossed_line = appended_line fresh_bytes_lem (all_append all fits)

  pub crossed_column : (unpacked r').column ≡ column 0 (take (unpacked r').count out')
  crossed_column = appended_column fresh_bytes_lem (all_append all fits)

  pub crossed_reads_back : {lexemes : List Lexed} → Readable (tokens_of ls) lexemes → Cuts (take (unpacked r').count out') lexemes []
  crossed_reads_back r = appended_reads_back fresh_bytes_lem (all_append all fits) r

  pub crossed_case : {c : Case} → Memᴰ c cases → tokens_of ls ≡ c.0 → take (unpacked r').count out' ≡ c.1
  crossed_case m e = appended_case fresh_bytes_lem (all_append all fits) m e
