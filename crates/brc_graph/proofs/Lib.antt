mod CutLaws
mod CellLaws
mod WalkLaws
mod DrawLaws
mod BoxLaws
mod ReportAgain
