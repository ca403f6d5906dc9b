-- Events, callbacks and the agenda.
pub mod EventLaws
pub mod CallbackLaws
pub mod AgendaLaws
pub mod PopLaws
pub mod ScheduledOnce
pub mod TimeLaws
pub mod ChangedCalendars
