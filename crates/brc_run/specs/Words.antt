-- What a contract above cites of a section that has ended.
pub use Rattle.brc_section.specs.declared.section.SectionEnd.{SectionEnd}
-- What a contract above cites of how a script may be run.
pub use Rattle.brc_run.specs.declared.options.RunOptions.{RunOptions}
pub use Rattle.brc_run.specs.Options.{AreRunOptions}
