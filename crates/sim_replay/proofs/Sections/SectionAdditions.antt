-- What the lines of sections say beside a journal and posters: nothing.
--     none_headed, none_declared      they declare nothing
--     section_adds                    they add nothing else to a scenario
use Rattle.std.proofs.Common.{◌≡◌, refl, ◌∙◌, ℕ, ◌+◌, true, List, [], ◌∷◌}
use Rattle.std.proofs.lemmas.Bool.{false≢true, and_parts}
use Rattle.sim_types.specs.Scenarios.{ScenarioOf}
use Rattle.sim_language.specs.declared.form.Form.TheVariants as form
use Rattle.sim_language.specs.AnywhereInText.{ProcessLines}
use Rattle.sim_language.specs.Sayings.{TextLine, Saying, Blank, Wrong, Says}
use Rattle.sim_language.specs.Places.{LineInText, places}
use Rattle.sim_language.specs.Reads.{add_said, with_lines}
use Rattle.sim_replay.specs.Sections.{with_journal}
use Rattle.sim_language_law.proofs.Lines.Walking.{place_at}
use Rattle.sim_language_law.proofs.Anywhere.SaidAnywhere.{said_in, head_said, heads_said, declaration_said, declarations_said}
use Rattle.sim_replay.proofs.Sections.SaidForms.{passes, all_pass}
use Rattle.sim_replay.proofs.Sections.SectionLines.{is_of_section}

-- ---- declarations

heads_nothing : (said : Saying) → passes is_of_section said ≡ true → head_said said ≡ []
heads_nothing Blank h = refl
heads_nothing (Wrong kind) h = refl
heads_nothing (Says form.Journal slots) h = refl
heads_nothing (Says form.After slots) h = refl
heads_nothing (Says form.Poster slots) h = refl
heads_nothing (Says form.Post slots) h = refl
heads_nothing (Says f slots) h = absurd (false≢true h)

declares_nothing : (said : Saying) → passes is_of_section said ≡ true → declaration_said said ≡ []
declares_nothing Blank h = refl
declares_nothing (Wrong kind) h = refl
declares_nothing (Says f []) h = refl
declares_nothing (Says form.Journal (slot ∷ slots)) h = refl
declares_nothing (Says form.After (slot ∷ slots)) h = refl
declares_nothing (Says form.Poster (slot ∷ slots)) h = refl
declares_nothing (Says form.Post (slot ∷ slots)) h = refl
declares_nothing (Says f (slot ∷ slots)) h = absurd (false≢true h)

nothing_said_in : {A : Type 0} (said : Saying → List A) (ls : List TextLine) → ((s : Saying) → passes is_of_section s ≡ true → said s ≡ [])
    → all_pass is_of_section ls ≡ true → said_in said ls ≡ []
nothing_said_in said [] each h = refl
nothing_said_in said (l ∷ ls) each h =
    let parts = and_parts (passes is_of_section l.saying) (all_pass is_of_section ls) h in
    rw (each l.saying parts.0) (nothing_said_in said ls each parts.1)

pub none_headed : (ls : List TextLine) → all_pass is_of_section ls ≡ true → heads_said ls ≡ []
none_headed ls h = nothing_said_in head_said ls heads_nothing h

pub none_declared : (ls : List TextLine) → all_pass is_of_section ls ≡ true → declarations_said ls ≡ []
none_declared ls h = nothing_said_in declaration_said ls declares_nothing h

-- ---- additions

said_adds : (heads : ProcessLines) (place : LineInText) (said : Saying) (s : ScenarioOf) → passes is_of_section said ≡ true
    → with_journal [] (add_said heads place said s) ≡ with_journal [] s
said_adds heads place Blank s h = refl
said_adds heads place (Wrong kind) s h = refl
said_adds heads place (Says form.Journal slots) s h = refl
said_adds heads place (Says form.After []) s h = refl
said_adds heads place (Says form.After (a ∷ [])) s h = refl
said_adds heads place (Says form.After (a ∷ b ∷ [])) s h = refl
said_adds heads place (Says form.After (a ∷ b ∷ c ∷ [])) s h = refl
said_adds heads place (Says form.After (a ∷ b ∷ c ∷ d ∷ [])) s h = refl
said_adds heads place (Says form.After (a ∷ b ∷ c ∷ d ∷ e ∷ [])) s h = refl
said_adds heads place (Says form.After (a ∷ b ∷ c ∷ d ∷ e ∷ f ∷ more)) s h = refl
said_adds heads place (Says form.Poster slots) s h = refl
said_adds heads place (Says form.Post []) s h = refl
said_adds heads place (Says form.Post (a ∷ [])) s h = refl
said_adds heads place (Says form.Post (a ∷ b ∷ [])) s h = refl
said_adds heads place (Says form.Post (a ∷ b ∷ c ∷ more)) s h = refl
said_adds heads place (Says f slots) s h = absurd (false≢true h)

pub section_adds : (heads : ProcessLines) (ls : List TextLine) (n : ℕ) (above : List TextLine) (s : ScenarioOf) → all_pass is_of_section ls ≡ true
    → with_journal [] (with_lines heads s (places n above ls)) ≡ with_journal [] s
section_adds heads [] n above s h = refl
section_adds heads (l ∷ ls) n above s h =
    let parts = and_parts (passes is_of_section l.saying) (all_pass is_of_section ls) h in
    let place : LineInText = place_at n above l ls in
    section_adds heads ls (n + 1) (l ∷ above) (add_said heads place l.saying s) parts.1 ∙ said_adds heads place l.saying s parts.0
