-- Computed examples of UTF-8: the edges of RFC 3629's table, and the examples of its section 7. Assumes nothing.
use Rattle.std.specs.Prelude.{◌≡◌, refl, List, [], ◌∷◌, map, ℕ, zero, suc, ◌-◌, length}
use Rattle.characters.specs.Text.{Text, past}
use Rattle.characters.specs.Utf8.{table, fits, row_in, sequence_of, prefix_in, prefix_of, WellFormed, place_after, prefix_place, bits, value_of, char_of}
use Rattle.characters.specs.Utf8Laws.{never, whole_sound, whole_complete}

-- the first and the last character of each length, those next to the surrogates, and their numbers
edges : List Text
edges =
    (0x00 ∷ [])
    ∷ (0x7F ∷ [])
    ∷ (0xC2 ∷ 0x80 ∷ [])
    ∷ (0xDF ∷ 0xBF ∷ [])
    ∷ (0xE0 ∷ 0xA0 ∷ 0x80 ∷ [])
    ∷ (0xED ∷ 0x9F ∷ 0xBF ∷ [])
    ∷ (0xEE ∷ 0x80 ∷ 0x80 ∷ [])
    ∷ (0xEF ∷ 0xBF ∷ 0xBF ∷ [])
    ∷ (0xF0 ∷ 0x90 ∷ 0x80 ∷ 0x80 ∷ [])
    ∷ (0xF4 ∷ 0x8F ∷ 0xBF ∷ 0xBF ∷ [])
    ∷ []

edges_whole : map prefix_of edges ≡ map length edges
unfolding edges table fits row_in sequence_of prefix_in
edges_whole = refl

edges_values : map char_of edges ≡ 0x00 ∷ 0x7F ∷ 0x80 ∷ 0x7FF ∷ 0x800 ∷ 0xD7FF ∷ 0xE000 ∷ 0xFFFF ∷ 0x10000 ∷ 0x10FFFF ∷ []
unfolding edges table fits row_in sequence_of bits value_of char_of
edges_values = refl

-- just past those edges, each behind an `a`: the prefix ends after it
beyond : List Text
beyond =
    -- a stray tail
    (0x61 ∷ 0x80 ∷ [])
    ∷ (0x61 ∷ 0xBF ∷ [])
    -- overlong
    ∷ (0x61 ∷ 0xC0 ∷ 0x80 ∷ [])
    ∷ (0x61 ∷ 0xC1 ∷ 0xBF ∷ [])
    ∷ (0x61 ∷ 0xE0 ∷ 0x9F ∷ 0xBF ∷ [])
    ∷ (0x61 ∷ 0xF0 ∷ 0x8F ∷ 0xBF ∷ 0xBF ∷ [])
    -- surrogates
    ∷ (0x61 ∷ 0xED ∷ 0xA0 ∷ 0x80 ∷ [])
    ∷ (0x61 ∷ 0xED ∷ 0xBF ∷ 0xBF ∷ [])
    -- above 10FFFF
    ∷ (0x61 ∷ 0xF4 ∷ 0x90 ∷ 0x80 ∷ 0x80 ∷ [])
    ∷ (0x61 ∷ 0xF5 ∷ 0x80 ∷ 0x80 ∷ 0x80 ∷ [])
    ∷ (0x61 ∷ 0xFF ∷ [])
    -- cut by the end of the text, or by another character
    ∷ (0x61 ∷ 0xC3 ∷ [])
    ∷ (0x61 ∷ 0xE2 ∷ 0x82 ∷ [])
    ∷ (0x61 ∷ 0xF0 ∷ 0x9F ∷ 0x98 ∷ [])
    ∷ (0x61 ∷ 0xE2 ∷ 0x82 ∷ 0x62 ∷ [])
    ∷ (0x61 ∷ 0xF0 ∷ 0x9F ∷ 0x98 ∷ 0xC3 ∷ [])
    ∷ []

beyond_refused : map prefix_of beyond ≡ map (λ s. 1) beyond
unfolding beyond table fits row_in sequence_of prefix_in
beyond_refused = refl

-- no character there, and none at the end of a text
no_character : char_of (0xED ∷ 0xA0 ∷ 0x80 ∷ []) ≡ 0xFFFD
unfolding table fits row_in sequence_of char_of
no_character = refl

nul_at_end : char_of [] ≡ 0
unfolding char_of
nul_at_end = refl

-- section 7: "A<NOT IDENTICAL TO><ALPHA>.", and U+233B4 behind a byte order mark
first_example : Text
first_example = 0x41 ∷ 0xE2 ∷ 0x89 ∷ 0xA2 ∷ 0xCE ∷ 0x91 ∷ 0x2E ∷ []

characters : ℕ → Text → List ℕ
characters left [] = []
characters zero (b ∷ s) = char_of (b ∷ s) ∷ characters (sequence_of (b ∷ s) - 1) s
characters (suc left) (b ∷ s) = characters left s

first_read : characters 0 first_example ≡ 0x41 ∷ 0x2262 ∷ 0x391 ∷ 0x2E ∷ []
unfolding first_example characters table fits row_in sequence_of bits value_of char_of
first_read = refl

last_read : characters 0 (0xEF ∷ 0xBB ∷ 0xBF ∷ 0xF0 ∷ 0xA3 ∷ 0x8E ∷ 0xB4 ∷ []) ≡ 0xFEFF ∷ 0x233B4 ∷ []
unfolding characters table fits row_in sequence_of bits value_of char_of
last_read = refl

-- the declarative side, through the laws: one text that is well-formed, and one, a surrogate, that is not
first_well_formed : WellFormed first_example
unfolding first_example table fits row_in sequence_of prefix_in
first_well_formed = whole_sound first_example refl

surrogate_not : WellFormed (0xED ∷ 0xA0 ∷ 0x80 ∷ []) → ⊥
unfolding table fits row_in sequence_of prefix_in
surrogate_not w = never (whole_complete (0xED ∷ 0xA0 ∷ 0x80 ∷ []) w)

-- the place counts characters: `a`, LF, U+0391, `b`, then a stray tail
after_prefix : prefix_place (0x61 ∷ 0x0A ∷ 0xCE ∷ 0x91 ∷ 0x62 ∷ 0x80 ∷ 0x63 ∷ []) ≡ record { offset = 5; line = 2; column = 3 }
unfolding table fits row_in sequence_of prefix_in place_after past
after_prefix = refl
