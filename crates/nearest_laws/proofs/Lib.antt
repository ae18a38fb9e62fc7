mod Nearest
