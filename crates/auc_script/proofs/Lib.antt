mod ScriptLaws
mod ReplyLaws
