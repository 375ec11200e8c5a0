-- Examples of what is refused and what is not. Each is computed from the definition.
use Rattle.std.specs.Prelude.{◌≡◌, refl, [], ◌∷◌, true, false}
use Rattle.source.specs.Source.{ends, ends_inside}

-- nothing at all
empty : ends_inside [] ≡ false
unfolding ends_inside ends
empty = refl

-- a--b
line : ends_inside (0x61 ∷ 0x2D ∷ 0x2D ∷ 0x62 ∷ []) ≡ false
unfolding ends_inside ends
line = refl

-- --'
line_quote : ends_inside (0x2D ∷ 0x2D ∷ 0x27 ∷ []) ≡ false
unfolding ends_inside ends
line_quote = refl

-- -- /*
line_block : ends_inside (0x2D ∷ 0x2D ∷ 0x20 ∷ 0x2F ∷ 0x2A ∷ []) ≡ false
unfolding ends_inside ends
line_block = refl

-- --, a newline, '
line_over : ends_inside (0x2D ∷ 0x2D ∷ 0x0A ∷ 0x27 ∷ []) ≡ true
unfolding ends_inside ends
line_over = refl

-- /*
block : ends_inside (0x2F ∷ 0x2A ∷ []) ≡ true
unfolding ends_inside ends
block = refl

-- /*/
block_slash : ends_inside (0x2F ∷ 0x2A ∷ 0x2F ∷ []) ≡ true
unfolding ends_inside ends
block_slash = refl

-- /**/
block_closed : ends_inside (0x2F ∷ 0x2A ∷ 0x2A ∷ 0x2F ∷ []) ≡ false
unfolding ends_inside ends
block_closed = refl

-- /* */
block_blank : ends_inside (0x2F ∷ 0x2A ∷ 0x20 ∷ 0x2A ∷ 0x2F ∷ []) ≡ false
unfolding ends_inside ends
block_blank = refl

-- /***/
block_stars : ends_inside (0x2F ∷ 0x2A ∷ 0x2A ∷ 0x2A ∷ 0x2F ∷ []) ≡ false
unfolding ends_inside ends
block_stars = refl

-- /*'*/
block_quote : ends_inside (0x2F ∷ 0x2A ∷ 0x27 ∷ 0x2A ∷ 0x2F ∷ []) ≡ false
unfolding ends_inside ends
block_quote = refl

-- '
single : ends_inside (0x27 ∷ []) ≡ true
unfolding ends_inside ends
single = refl

-- ''
single_closed : ends_inside (0x27 ∷ 0x27 ∷ []) ≡ false
unfolding ends_inside ends
single_closed = refl

-- 'a''
single_doubled : ends_inside (0x27 ∷ 0x61 ∷ 0x27 ∷ 0x27 ∷ []) ≡ true
unfolding ends_inside ends
single_doubled = refl

-- "'
double : ends_inside (0x22 ∷ 0x27 ∷ []) ≡ true
unfolding ends_inside ends
double = refl

-- `
backtick : ends_inside (0x60 ∷ []) ≡ true
unfolding ends_inside ends
backtick = refl

-- '/*'
quote_block : ends_inside (0x27 ∷ 0x2F ∷ 0x2A ∷ 0x27 ∷ []) ≡ false
unfolding ends_inside ends
quote_block = refl

-- '--, a newline
quote_line : ends_inside (0x27 ∷ 0x2D ∷ 0x2D ∷ 0x0A ∷ []) ≡ true
unfolding ends_inside ends
quote_line = refl

-- -/*
dash_block : ends_inside (0x2D ∷ 0x2F ∷ 0x2A ∷ []) ≡ true
unfolding ends_inside ends
dash_block = refl

-- //*
slash_block : ends_inside (0x2F ∷ 0x2F ∷ 0x2A ∷ []) ≡ true
unfolding ends_inside ends
slash_block = refl

-- /--
slash_line : ends_inside (0x2F ∷ 0x2D ∷ 0x2D ∷ []) ≡ false
unfolding ends_inside ends
slash_line = refl

-- -'
dash_quote : ends_inside (0x2D ∷ 0x27 ∷ []) ≡ true
unfolding ends_inside ends
dash_quote = refl

-- ---'
dashes : ends_inside (0x2D ∷ 0x2D ∷ 0x2D ∷ 0x27 ∷ []) ≡ false
unfolding ends_inside ends
dashes = refl
