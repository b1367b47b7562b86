-- How each word of a script is written.
use Rattle.std.specs.Prelude.{◌≡◌, ℕ, ◌^◌, ◌<◌, List, [], ◌∷◌, codes, decimal}
use Rattle.entry.specs.declared.reading.State.TheVariants.{Valid, Saturated, Missing}
pub use Rattle.entry.specs.Texts.{state_text}
use Rattle.placement.specs.declared.policies.Policy.{Policy}
use Rattle.placement.specs.declared.policies.Policy.TheVariants.{Rendezvous, Jump}
use Rattle.grammar.specs.declared.command.Verb.{Verb}
use Rattle.grammar.specs.declared.command.Verb.TheVariants as verb
use Rattle.grammar.specs.declared.opening.Kind.{Kind}
use Rattle.grammar.specs.declared.opening.Kind.TheVariants.{Table, Log, Mixed}
use Rattle.grammar.specs.declared.opening.Keyword.{Keyword}
use Rattle.grammar.specs.declared.opening.Keyword.TheVariants.{Cluster}

-- a number below 2^64, without leading zeros
abbrev pub WritesNumber : ℕ → List ℕ → Type 0
WritesNumber n w = (n < 2 ^ 64) × (w ≡ decimal n)

abbrev pub policy_text : Policy → List ℕ
policy_text Rendezvous = codes "rendezvous"
policy_text Jump = codes "jump"

abbrev pub kind_text : Kind → List ℕ
kind_text Table = codes "table"
kind_text Log = codes "log"
kind_text Mixed = codes "mixed"

abbrev pub verb_text : Verb → List ℕ
verb_text verb.Cal = codes "cal"
verb_text verb.Read = codes "read"
verb_text verb.Get = codes "get"
verb_text verb.Del = codes "del"
verb_text verb.Join = codes "join"
verb_text verb.Leave = codes "leave"
verb_text verb.Step = codes "step"

abbrev pub keyword_text : Keyword → List ℕ
keyword_text Cluster = codes "cluster"

-- all words of each sort
abbrev pub states : List (List ℕ)
states = state_text Valid ∷ state_text Saturated ∷ state_text Missing ∷ []

abbrev pub policies : List (List ℕ)
policies = policy_text Rendezvous ∷ policy_text Jump ∷ []

abbrev pub kinds : List (List ℕ)
kinds = kind_text Table ∷ kind_text Log ∷ kind_text Mixed ∷ []

abbrev pub verbs : List (List ℕ)
verbs = verb_text verb.Cal ∷ verb_text verb.Read ∷ verb_text verb.Get ∷ verb_text verb.Del ∷ verb_text verb.Join ∷ verb_text verb.Leave ∷ verb_text verb.Step ∷ []

abbrev pub keywords : List (List ℕ)
keywords = keyword_text Cluster ∷ []
