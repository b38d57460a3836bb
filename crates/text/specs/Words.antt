-- The words of a line: NAME=VALUE, with a single space between each two.
use Rattle.std.specs.Prelude.{ℕ, ◌+◌, Bool, cond, List, ◌++◌, length, map, take, drop, codes, ◌==◌}
use Rattle.std.specs.Str.{bytes_eq}
use Rattle.text.specs.Parts.{count_to, split, left}
use Rattle.text.specs.declared.word.Word.{Word}
use Rattle.text.specs.declared.word.Word.TheVariants as word
use Rattle.text.specs.declared.words.Words.{Words}

-- the words of a line are its parts between the spaces
abbrev pub words : List ℕ → List (List ℕ)
words line = split 32 line

-- the words that a reader has still to give
abbrev pub words_left : Words → List (List ℕ)
words_left w = left w.parts

-- a word with its bytes: of a known name the value, else the whole word
pub data Meant : Type 0 where
  call : List ℕ → Meant
  session : List ℕ → Meant
  mode : List ℕ → Meant
  key : List ℕ → Meant
  row : List ℕ → Meant
  other : List ℕ → Meant

abbrev pub meant : Word → Meant
meant (word.Call v) = call v.now
meant (word.Session v) = session v.now
meant (word.Mode v) = mode v.now
meant (word.Key v) = key v.now
meant (word.Row v) = row v.now
meant (word.Other w) = other w.now

-- whether two texts are the same, byte for byte
abbrev pub same : List ℕ → List ℕ → Bool
same = bytes_eq

-- the word w of a name and a value
abbrev pub named : List ℕ → List ℕ → List ℕ → Meant
named w name value =
    cond (same name (codes "call")) (call value)
    (cond (same name (codes "s")) (session value)
    (cond (same name (codes "mode")) (mode value)
    (cond (same name (codes "k")) (key value)
    (cond (same name (codes "v")) (row value) (other w)))))

-- the name goes to the first '='; with no '=' a word has no name
abbrev pub word_of : List ℕ → Meant
word_of w = cond (count_to 61 w == length w) (other w) (named w (take (count_to 61 w) w) (drop (count_to 61 w + 1) w))

-- what the words mean that a reader has still to give
abbrev pub meanings_left : Words → List Meant
meanings_left w = map word_of (words_left w)

-- the bytes that a word was read from
abbrev pub spelled : Meant → List ℕ
spelled (call v) = codes "call=" ++ v
spelled (session v) = codes "s=" ++ v
spelled (mode v) = codes "mode=" ++ v
spelled (key v) = codes "k=" ++ v
spelled (row v) = codes "v=" ++ v
spelled (other w) = w
