-- `rowid::is_word` meets its contract: where the lengths are the same, each byte in capitals is tested against the word's at its place.
use Rattle.std.proofs.Common.{◌∙◌, nat_eq, rules, tests}
use Rattle.std.specs.Char.{to_ascii_uppercase}
use Rattle.std.proofs.lemmas.Iterator.{YieldsList-from_slice, YieldsList-from_zip}
use Rattle.std.proofs.lemmas.Iterator.Search.{all_from_yields_List}
use Rattle.rowid.proofs.Words.{other_length, zipped}
use Rattle.rowid.proofs.is_word.Goals as goal

pub returns-then-bytes-word : goal.returns-then-bytes-word
returns-then-bytes-word c =
    let s = c.args.bytes.now in
    let w = c.args.word.now in
    all_from_yields_List {s = c.zip.result} (λ p. nat_eq (to_ascii_uppercase p.0) p.1) c.all.new.self _ c.all.result c.all.ensures.ran (YieldsList-from_zip (YieldsList-from_slice s cc) (YieldsList-from_slice w cc)) (λ x b q k. (search rules, search (rules, tests)))
    ∙ zipped s w c.if-bytes-word.true

pub returns-else-bytes-word : goal.returns-else-bytes-word
returns-else-bytes-word c = search (rules, other_length)
