-- What answers the bytes that a call has taken answers the text.
--     whole_of, prefix_of            the text is what the source told
--     unread_whole, unread_begun     no text was read
--     none_begun                     nothing was written
use Rattle.std.proofs.Common.{◌≡◌, ◌<◌, ℕ, ◌+◌, Bool, false, List, [], length, refl, sym, ◌∙◌, subst, Option, ◌⊎◌, inl, inr}
use Rattle.std.specs.Prelude.{IsTrue}
use Rattle.std.specs.Io.KnownBytes.{Appends}
use Rattle.std.proofs.KnownBytes.{Appends-nil}
use Rattle.std.proofs.lemmas.Bool.{false≢true}
use Rattle.sim_types.specs.Limits.{most_bytes}
use Rattle.sim_code.proofs.TakenTexts.{text_of, text_told, same_or_long}
use Rattle.sim_command.specs.declared.status.Status.{Status}
use Rattle.sim_outside.specs.Reads.{TakesFirst}
use Rattle.sim_outside.specs.Writes.{AppendsPrefix, SinkOf}
use Rattle.sim_answer.specs.Answers.{AnswersPrefix, AnswersWhole}

-- both texts have more bytes than a text may have
pub record AreTooLong (text other : List ℕ) : Type 0 where
  pub first : most_bytes < length text
  pub second : most_bytes < length other

-- what answers one of two texts answers the other
pub record AreAnsweredAlike (allows : List ℕ → List ℕ → Type 0) (answers : List ℕ → List ℕ → Status → Type 0) (text other : List ℕ) : Type 0 where
  pub allowed : (bytes : List ℕ) → allows text bytes → allows other bytes
  pub answer : (bytes : List ℕ) (status : Status) → answers text bytes status → answers other bytes status

-- texts that are too long are answered alike, and where no text is read, all texts are
module _ (allows : List ℕ → List ℕ → Type 0) (answers : List ℕ → List ℕ → Status → Type 0) (reads_text : Bool)
    (alike : (text other : List ℕ) → (IsTrue reads_text → AreTooLong text other) → AreAnsweredAlike allows answers text other) where
  -- so are the bytes taken and the text
  same_for : (left rest : Option (List ℕ)) (text bytes : List ℕ) → TakesFirst (most_bytes + 1) left rest bytes → text ≡ bytes
      → AreAnsweredAlike allows answers text (text_of left bytes)
  same_for left rest text bytes takes held = by (same_or_long left rest bytes takes)
    where
      by : (bytes ≡ text_of left bytes) ⊎ ((most_bytes < length bytes) × (most_bytes < length (text_of left bytes)))
          → AreAnsweredAlike allows answers text (text_of left bytes)
      by (inl same) =
          let is : text ≡ text_of left bytes = held ∙ same in
          record { allowed = λ b. subst (λ t. allows t b) is; answer = λ b status. subst (λ t. answers t b status) is }
      by (inr long) = alike text (text_of left bytes) (λ _. record { first = subst (λ t. most_bytes < length t) (sym held) long.0; second = long.1 })

  unread_for : (text other : List ℕ) → reads_text ≡ false → AreAnsweredAlike allows answers text other
  unread_for text other unread = alike text other (λ read. absurd (false≢true (sym unread ∙ read)))

  module _ (left : Option (List ℕ)) (text bytes : List ℕ) (old new : SinkOf) (same : AreAnsweredAlike allows answers text (text_of left bytes)) where
    whole_by : (written : List ℕ) (status : Status) → Appends old.taken new.taken written → answers text written status
        → AnswersWhole answers left old new status
    whole_by written status appended answer =
        record {
          text = text_of left bytes;
          told = text_told left bytes;
          bytes = written;
          written = appended;
          answer = same.answer written status answer;
        }

    prefix_by : (written : List ℕ) → AppendsPrefix old.taken new.taken written → allows text written → AnswersPrefix allows left old new
    prefix_by written appended allowed =
        record {
          text = text_of left bytes;
          told = text_told left bytes;
          bytes = written;
          written = appended;
          allowed = same.allowed written allowed;
        }

  module _ (left rest : Option (List ℕ)) (text bytes : List ℕ) (old new : SinkOf) (takes : TakesFirst (most_bytes + 1) left rest bytes)
      (held : text ≡ bytes) where
    pub whole_of : (written : List ℕ) (status : Status) → Appends old.taken new.taken written → answers text written status
        → AnswersWhole answers left old new status
    whole_of = whole_by left text bytes old new (same_for left rest text bytes takes held)

    pub prefix_of : (written : List ℕ) → AppendsPrefix old.taken new.taken written → allows text written → AnswersPrefix allows left old new
    prefix_of = prefix_by left text bytes old new (same_for left rest text bytes takes held)

  module _ (left : Option (List ℕ)) (text : List ℕ) (old new : SinkOf) (unread : reads_text ≡ false) where
    pub unread_whole : (written : List ℕ) (status : Status) → Appends old.taken new.taken written → answers text written status
        → AnswersWhole answers left old new status
    unread_whole = whole_by left text [] old new (unread_for text (text_of left []) unread)

    pub unread_begun : (written : List ℕ) → AppendsPrefix old.taken new.taken written → allows text written → AnswersPrefix allows left old new
    unread_begun = prefix_by left text [] old new (unread_for text (text_of left []) unread)

-- nothing written is a prefix of what may be written
pub none_begun : (allows : List ℕ → List ℕ → Type 0) (some : (text : List ℕ) → (bytes : List ℕ) × allows text bytes) (left : Option (List ℕ)) (old : SinkOf)
    → AnswersPrefix allows left old old
none_begun allows some left old =
    let one = some (text_of left []) in
    record {
      text = text_of left [];
      told = text_told left [];
      bytes = one.0;
      written = record { rest = one.0; front = record { front = []; parts = refl; appended = Appends-nil old.taken } };
      allowed = one.1;
    }
