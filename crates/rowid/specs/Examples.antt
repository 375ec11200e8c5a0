-- Examples of what is accepted and what is not. Each is computed from the definition.
use Rattle.std.specs.Prelude.{◌≡◌, refl, [], ◌∷◌, ◌++◌, true, false}
use Rattle.laws.specs.Text.{ascii}
use Rattle.white.specs.White.{white_length, length_among}
use Rattle.white.specs.Parts.{marks, runs, parts}
use Rattle.rowid.specs.Rowid.{names}

plain : names (ascii "WITHOUT ROWID") ≡ true
unfolding names parts runs marks white_length length_among
plain = refl

small : names (ascii "without  rowid") ≡ true
unfolding names parts runs marks white_length length_among
small = refl

-- U+00A0 between the two
mixed : names (ascii "WiThOuT" ++ 0xC2 ∷ 0xA0 ∷ ascii "RoWiD") ≡ true
unfolding names parts runs marks white_length length_among
mixed = refl

blanks_around : names (ascii " WITHOUT ROWID ") ≡ true
unfolding names parts runs marks white_length length_among
blanks_around = refl

one_part : names (ascii "WITHOUT") ≡ false
unfolding names parts runs marks white_length length_among
one_part = refl

three_parts : names (ascii "WITHOUT ROWID x") ≡ false
unfolding names parts runs marks white_length length_among
three_parts = refl

turned : names (ascii "ROWID WITHOUT") ≡ false
unfolding names parts runs marks white_length length_among
turned = refl

longer : names (ascii "WITHOUT ROWIDS") ≡ false
unfolding names parts runs marks white_length length_among
longer = refl

shorter : names (ascii "WITHOUT ROWI") ≡ false
unfolding names parts runs marks white_length length_among
shorter = refl

other_first : names (ascii "WITHIN ROWID") ≡ false
unfolding names parts runs marks white_length length_among
other_first = refl

-- a backtick is no letter
no_letter : names (ascii "WITHOUT R`WID") ≡ false
unfolding names parts runs marks white_length length_among
no_letter = refl

empty : names [] ≡ false
unfolding names parts runs marks white_length length_among
empty = refl

dash : names (ascii "WITHOUT-ROWID") ≡ false
unfolding names parts runs marks white_length length_among
dash = refl
