-- What is told about words that are written.
use Rattle.std.specs.Prelude.{List, [], ◌∷◌, ◌++◌, length, codes, Option, None, Some, Bool, false, not, ◌&&◌, ◌||◌, nat_eq, nat_le, if◌then◌else◌}
use Rattle.std.specs.List.{starts_with}
use Rattle.ccr_history.specs.Text.{Text}
use Rattle.ccr_run.specs.Topics.{TopicData, topic_data}
use Rattle.ccr_run.specs.declared.advice.Advice.{Advice}
use Rattle.ccr_run.specs.declared.advising.TheConstants.{MOST_SEARCHED}

-- words stand in a text
abbrev pub has_words : Text → Text → Bool
has_words words [] = false
has_words words (b ∷ bs) = starts_with nat_eq (b ∷ bs) words || has_words words bs

-- what to do about a line, and whether it was told, or isn't to be
pub record AdviceData : Type 0 where
  pub topic : TopicData
  pub is_told : Bool

-- what a value of the program's type stands for
abbrev pub advice_data : Advice → AdviceData
advice_data a = record { topic = topic_data a.topic; is_told = a.is_told }

-- what to do about a line, of which nothing was told yet; or nothing of it, as if it had been told
abbrev pub advice_on : TopicData → Bool → AdviceData
advice_on topic is_silent = record { topic = topic; is_told = is_silent }

-- words are among these bytes, if any are named
abbrev pub has_any : Text → Option Text → Bool
has_any bytes None = false
has_any bytes (Some words) = has_words words bytes

-- these bytes write the words, with those that have to stand beside them, and without those that may not
abbrev pub is_written : Text → TopicData → Bool
is_written bytes topic = has_words topic.words bytes && (has_words topic.beside bytes && not (has_any bytes topic.but))

-- it is told of these bytes: they write it, and it wasn't told before
abbrev pub is_said : Text → AdviceData → Bool
is_said bytes a = not a.is_told && is_written bytes a.topic

-- these bytes write words with which it isn't told any more
abbrev pub ends_by : Text → AdviceData → Bool
ends_by bytes a = has_any bytes a.topic.unless

-- the same, behind these bytes
abbrev pub heeded : Text → AdviceData → AdviceData
heeded bytes a = record a { is_told = (a.is_told || is_said bytes a) || ends_by bytes a }

-- THE LINE THAT IS TOLD of these bytes, if one is
abbrev pub advice_lines : Text → AdviceData → List Text
advice_lines bytes a = if is_said bytes a then (codes "hint: " ++ a.topic.hint) ∷ [] else []

-- what is looked at of the bytes that one call writes: nothing of more than 65,536, since a command that shows as many tells of no failure
abbrev pub searched : Text → Text
searched bytes = if nat_le (length bytes) MOST_SEARCHED then bytes else []
