-- The parts of which the text of a history is put together.
use Rattle.std.specs.Prelude.{ℕ, ◌-◌, if◌then◌else◌, List, [], ◌∷◌, ◌++◌, codes, option_map}
use Rattle.tree_types.specs.declared.history.Entry.{Entry}
use Rattle.volume_model.specs.Texts.{field}
use Rattle.history_model.specs.ReplyText.{spaced, after_space, text_of_reply}
use Rattle.history_model.specs.HistoryText.{spaced_or_dash}

-- when an entry began, ended and was told, after so many listed calls
abbrev pub moments_text : (before : ℕ) → Entry → List ℕ
moments_text before e = spaced (e.start - before) ++ (spaced (e.at - before) ++ spaced_or_dash (option_map (λ told. told - before) e.told))

-- the kind of an entry, its reply and the end of the line
abbrev pub answer_text : Entry → List ℕ
answer_text e = (if e.sync then codes " s" else codes " a") ++ (after_space (text_of_reply e.reply) ++ (10 ∷ []))

-- the first line of a history
abbrev pub session_line : (epoch moment streams : ℕ) → List ℕ
session_line epoch moment streams = codes "session" ++ (spaced epoch ++ (spaced moment ++ (spaced streams ++ (10 ∷ []))))

-- the line that sums a session up, by its numbers
abbrev pub summary_line : (told left commits rolls : ℕ) → List ℕ
summary_line told left commits rolls =
    field (codes "answered") told ++ (field (codes " left") left ++ (field (codes " commits") commits ++ (field (codes " rolls") rolls ++ (10 ∷ []))))
