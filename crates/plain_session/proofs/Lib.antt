mod ServedEntries
mod ScriptLines
mod UnderWay
mod Histories
mod EnteredLines
