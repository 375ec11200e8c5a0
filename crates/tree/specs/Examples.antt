-- 01, section 6: the tree that is run and compared is admitted with its text, and what single faults in it are answered by.
use Rattle.std.specs.Prelude.{ℕ, ◌≡◌, refl, List, [], ◌∷◌, ◌++◌, Ok, Err}
use Rattle.laws.specs.Text.{ascii}
use Rattle.utf8.specs.Rfc3629.{number, boundary}
use Rattle.utf8.specs.declared.Broken.{Broken as Breach}
use Rattle.record.specs.Record.{bytes_at, record_at}
use Rattle.grammar.specs.Grammar.{shape}
use Rattle.grammar.specs.Slots.{slots_of, flags_below, allowed, elements}
use Rattle.tree.specs.Check.{Admitted, holds, flags_fit, has_part, fields_fit, range_fits, fits, inside, faults_in, scan_in, malformed, answer_in, answer_to}
use Rattle.tree.specs.declared.Refusal.TheVariants.{Malformed, Broken, Mark, Misfit, Outside, Ends}

-- `DROP TYPE IF EXISTS geo;`: a Cmd, a DropType and a TEXT
abbrev cmd : List ℕ
cmd = 0x53 ∷ 0x4E ∷ 0x0A ∷ 0 ∷ 0 ∷ 0 ∷ 1 ∷ 0 ∷ 0 ∷ 0 ∷ 0 ∷ 0 ∷ 0 ∷ 0 ∷ 0 ∷ 0 ∷ []

abbrev drop_type : List ℕ
drop_type = 0x53 ∷ 0x4E ∷ 0x3D ∷ 0 ∷ 1 ∷ 0 ∷ 1 ∷ 0 ∷ 0 ∷ 0 ∷ 0 ∷ 0 ∷ 0 ∷ 0 ∷ 0 ∷ 0 ∷ []

abbrev geo : ℕ → List ℕ
geo mark = mark ∷ 0x4E ∷ 4 ∷ 0 ∷ 0 ∷ 0 ∷ 0 ∷ 0 ∷ 0 ∷ 0 ∷ 0 ∷ 0 ∷ 3 ∷ 0 ∷ 0 ∷ 0 ∷ []

abbrev tree : List ℕ
tree = cmd ++ (drop_type ++ geo 0x53)

admitted : answer_to (Ok tt) tree (ascii "geo") ≡ Admitted
unfolding answer_in malformed scan_in faults_in fits holds flags_fit has_part fields_fit range_fits inside boundary record_at bytes_at shape slots_of flags_below allowed elements
admitted = refl

no_tree : answer_to (Ok tt) [] (ascii "geo") ≡ Err Malformed
unfolding answer_in malformed
no_tree = refl

-- "A wrong mark together with bad UTF-8 gives 2."
two_first : (e : Breach) → number (Err e) ≡ 2 → answer_to (Err e) (cmd ++ (drop_type ++ geo 0x54)) (0x67 ∷ 0x80 ∷ []) ≡ Err (Broken e)
unfolding answer_in malformed
two_first e two = refl

wrong_mark : answer_to (Ok tt) (cmd ++ (drop_type ++ geo 0x54)) (ascii "geo") ≡ Err (Mark 2)
unfolding answer_in malformed scan_in faults_in fits holds flags_fit has_part fields_fit range_fits inside boundary record_at bytes_at shape slots_of flags_below allowed elements
wrong_mark = refl

misplaced : answer_to (Ok tt) (drop_type ++ cmd) (ascii "geo") ≡ Err (Misfit 1)
unfolding answer_in malformed scan_in faults_in fits holds flags_fit has_part fields_fit range_fits inside boundary record_at bytes_at shape slots_of flags_below allowed elements
misplaced = refl

past_the_text : answer_to (Ok tt) tree (ascii "ge") ≡ Err (Outside 2)
unfolding answer_in malformed scan_in faults_in fits holds flags_fit has_part fields_fit range_fits inside boundary record_at bytes_at shape slots_of flags_below allowed elements
past_the_text = refl

one_missing : answer_to (Ok tt) (cmd ++ drop_type) (ascii "geo") ≡ Err (Ends 2)
unfolding answer_in malformed scan_in faults_in fits holds flags_fit has_part fields_fit range_fits inside boundary record_at bytes_at shape slots_of flags_below allowed elements
one_missing = refl

one_left : answer_to (Ok tt) (tree ++ cmd) (ascii "geo") ≡ Err (Ends 3)
unfolding answer_in malformed scan_in faults_in fits holds flags_fit has_part fields_fit range_fits inside boundary record_at bytes_at shape slots_of flags_below allowed elements
one_left = refl
