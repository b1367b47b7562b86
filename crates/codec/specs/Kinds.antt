-- The words that stand for the kinds of records.
use Rattle.std.specs.Prelude.{◌≡◌, ℕ, Result, MatchResult, ◌≢◌}
use Rattle.codec.specs.declared.Kind.{Kind}
use Rattle.codec.specs.declared.Kind.TheVariants.{Put, Removal}
use Rattle.codec.specs.declared.UnknownKind.{UnknownKind}

-- the word of a kind
abbrev pub word_of : Kind → ℕ
word_of Put = 1
word_of Removal = 2

-- the result is the kind of this word, or the word, which is that of no kind
abbrev pub IsKindOf : ℕ → Result Kind UnknownKind → Type 0
IsKindOf word r = MatchResult r (λ kind. word_of kind ≡ word) (λ e. (e.0 ≡ word) × (word_of Put ≢ word) × (word_of Removal ≢ word))
