mod Telling_Notes
mod Of_Input
