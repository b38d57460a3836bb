-- The request that a line makes: its words are exactly those of a call, in their order.
use Rattle.std.specs.Prelude.{ℕ, cond, List, [], ◌∷◌, Some, None, codes, Option}
use Rattle.std.specs.Option.{option_map}
use Rattle.keys.specs.declared.listing.Listing.{Listing}
use Rattle.rules.specs.declared.sheet.Mode.{Mode}
use Rattle.rules.specs.declared.sheet.Mode.TheVariants.{Plain, Checked}
use Rattle.text.specs.Numbers.{decimal_of}
use Rattle.text.specs.Words.{Meant, call, session, mode, key, row, other, word_of, words, same}
use Rattle.records.specs.Reading.{listing, key_in, row_in}
use Rattle.script.specs.Calls.{kind_named}
use Rattle.script.specs.declared.request.Kind.{Kind}
use Rattle.script.specs.declared.request.Kind.TheVariants as kind
use Rattle.script.specs.declared.request.Request.{Request}
use Rattle.script.specs.declared.request.Request.TheVariants.{Begin, Read, Put, Drop, Commit, Abandon, Choose, Copy, Settle, GiveUp, Sweep, Collect}

-- the call of the word call=NAME
abbrev pub call_in : Meant → Option Kind
call_in (call name) = kind_named name
call_in (session v) = None
call_in (mode v) = None
call_in (key v) = None
call_in (row v) = None
call_in (other w) = None

-- the number of the word s=SESSION, of 32 bits
abbrev pub session_in : Meant → Option ℕ
session_in (session v) = decimal_of 4294967295 v
session_in (call v) = None
session_in (mode v) = None
session_in (key v) = None
session_in (row v) = None
session_in (other w) = None

abbrev pub mode_named : List ℕ → Option Mode
mode_named name = cond (same name (codes "plain")) (Some Plain) (cond (same name (codes "checked")) (Some Checked) None)

-- the mode of the word mode=plain or mode=checked
abbrev pub mode_in : Meant → Option Mode
mode_in (mode name) = mode_named name
mode_in (call v) = None
mode_in (session v) = None
mode_in (key v) = None
mode_in (row v) = None
mode_in (other w) = None

-- the listing of the word k=NUMBER, of 64 bits
abbrev pub listing_in : Meant → Option Listing
listing_in w = option_map listing (key_in w)

-- what the first of some words is read as
abbrev pub next_in : {X : Type 0} → (Meant → Option X) → List (List ℕ) → Option X
next_in reading [] = None
next_in reading (w ∷ ws) = reading (word_of w)

-- a value, if there is one, handed on
abbrev pub handed : {X Y : Type 0} → Option X → (X → Option Y) → Option Y
handed None next = None
handed (Some x) next = next x

-- one word and then more: what the word is read as is handed on, with the words after it
abbrev pub then : {X : Type 0} → (Meant → Option X) → (X → List (List ℕ) → Option Request) → List (List ℕ) → Option Request
then reading next [] = None
then reading next (w ∷ ws) = handed (reading (word_of w)) (λ x. next x ws)

-- no more words
abbrev pub done : Request → List (List ℕ) → Option Request
done r [] = Some r
done r (w ∷ ws) = None

-- the words of each call after its name; row_in reads v=PRICE,SEATS,SELLER
abbrev pub begin_words : List (List ℕ) → Option Request
begin_words = then session_in (λ s. then mode_in (λ m. done (Begin s m)))

abbrev pub read_words : List (List ℕ) → Option Request
read_words = then session_in (λ s. then listing_in (λ k. done (Read s k)))

abbrev pub put_words : List (List ℕ) → Option Request
put_words = then session_in (λ s. then listing_in (λ k. then row_in (λ v. done (Put s k v))))

abbrev pub drop_words : List (List ℕ) → Option Request
drop_words = then session_in (λ s. then listing_in (λ k. done (Drop s k)))

abbrev pub commit_words : List (List ℕ) → Option Request
commit_words = then session_in (λ s. done (Commit s))

abbrev pub abandon_words : List (List ℕ) → Option Request
abandon_words = then session_in (λ s. done (Abandon s))

abbrev pub choose_words : List (List ℕ) → Option Request
choose_words = then listing_in (λ k. done (Choose k))

abbrev pub operands : Kind → List (List ℕ) → Option Request
operands kind.Begin = begin_words
operands kind.Read = read_words
operands kind.Put = put_words
operands kind.Drop = drop_words
operands kind.Commit = commit_words
operands kind.Abandon = abandon_words
operands kind.Choose = choose_words
operands kind.Copy = done Copy
operands kind.Settle = done Settle
operands kind.GiveUp = done GiveUp
operands kind.Sweep = done Sweep
operands kind.Collect = done Collect

-- the name of a call, and then its words
abbrev pub request_of : List ℕ → Option Request
request_of line = then call_in operands (words line)
